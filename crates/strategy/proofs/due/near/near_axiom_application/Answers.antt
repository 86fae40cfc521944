use Rattle.std.proofs.Common.{subst}
use Rattle.std.specs.Prelude.{IfSome}
use Rattle.tableau.specs.PoolBranches.{branch_in}
use Rattle.tableau.proofs.NumberLemmas.{number_of_item}
use Rattle.axiom_strategy.specs.declared.due.WantedAxioms.TheVariants.{All as Everything}
use Rattle.axiom_strategy.specs.Due.{IsAxiomStep}
use Rattle.search.specs.Decisions.{IsExtensionDue}
use Rattle.search.proofs.ApplicationLemmas.{fact_goes_back}
use Rattle.strategy.proofs.PlainLemmas.{variable_left}
use Rattle.strategy.proofs.due.near.near_axiom_application.Goals as goal

pub near_axiom-requires-clause-terms : goal.near_axiom-requires-clause-terms
near_axiom-requires-clause-terms c = rw c.as_slice-numbers.ensures.value c.in_ok-listed.ensures

pub near_axiom-requires-clause-room : goal.near_axiom-requires-clause-room
near_axiom-requires-clause-room c = variable_left (branch_in c.args.pool.now c.args.branch.now) c.requires.room

pub returns-clause-due : goal.returns-clause-due
returns-clause-due c =
    let ms = c.near_axiom.new.pool in
    let shapes = c.args.shapes.now in
    let b = branch_in ms c.args.branch.now in
    let found = subst (λ o. IfSome o (IsAxiomStep ms shapes b Everything)) c.in-Some.is c.in_ok-step.ensures.due in
    fact_goes_back c.args.pool.now ms c.near_axiom.ensures.extends (λ h. IsExtensionDue shapes ms h c.in_ok-application.application) c.args.branch.now c.requires.over
    (c.in_ok-application.ensures shapes ms b found.formula (number_of_item ms found.formula c.in-Some.step.formula found.number) found.due)
