use Rattle.std.proofs.Common.{subst}
use Rattle.std.specs.Prelude.{MatchOption}
use Rattle.tableau.specs.PoolBranches.{branch_in}
use Rattle.tableau.proofs.NumberLemmas.{number_of_item}
use Rattle.axiom_strategy.specs.declared.due.WantedAxioms.TheVariants.{Ranges}
use Rattle.axiom_strategy.specs.Due.{NoAxiom, IsAxiomStep}
use Rattle.strategy.proofs.early.range_axiom_due.Goals as goal

pub returns-clause-due : goal.returns-clause-due
returns-clause-due c =
    let shapes = c.args.shapes.now in
    let ms = c.next_range_axiom.new.pool in
    let b = branch_in ms c.args.branch.now in
    let step = subst (λ o. MatchOption o (NoAxiom shapes b Ranges) (IsAxiomStep ms shapes b Ranges)) c.in-Some.is c.in_ok-step.ensures.due in
    c.in_ok-extension.ensures shapes ms b step.formula (number_of_item ms step.formula c.in-Some.step.formula step.number) step.due
