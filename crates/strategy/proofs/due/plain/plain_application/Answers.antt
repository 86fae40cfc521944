use Rattle.std.proofs.Common.{subst}
use Rattle.std.proofs.lemmas.Result.{on_ok_weaker}
use Rattle.std.specs.Prelude.{MatchOption}
use Rattle.tableau.specs.PoolBranches.{branch_in}
use Rattle.ematching.proofs.HeadLemmas.{index_later}
use Rattle.axiom_strategy.proofs.KnownLemmas.{known_stay}
use Rattle.ematching.proofs.QuantifierLemmas.{free_grown}
use Rattle.ematching.specs.Instances.{NoInstance}
use Rattle.search.specs.Decisions.{IsExtensionDue}
use Rattle.search.proofs.ApplicationLemmas.{over_stays, fact_goes_back, ok_map}
use Rattle.strategy.specs.Plain.{NoAxiomDue}
use Rattle.strategy.proofs.PlainLemmas.{plain_answer}
use Rattle.strategy.proofs.due.plain.plain_application.Goals as goal

pub returns-in-Some-clause-index : goal.returns-in-Some-clause-index
returns-in-Some-clause-index c = index_later c.args.pool.now c.axioms_application.new.pool c.axioms_application.ensures.extends c.grow.new.self c.in_ok-grow.ensures

pub returns-in-Some-clause-free : goal.returns-in-Some-clause-free
returns-in-Some-clause-free c = free_grown c.args.pool.now c.axioms_application.new.pool c.args.quantifiers.now c.axioms_application.ensures.extends c.requires.free

pub returns-in-Some-clause-due : goal.returns-in-Some-clause-due
returns-in-Some-clause-due c =
    let shapes = c.args.shapes.now in
    let b = branch_in c.args.pool.now c.args.branch.now in
    subst (λ o. MatchOption o (NoAxiomDue shapes b) (IsExtensionDue shapes c.axioms_application.new.pool b)) c.in-Some.is c.in_ok-found.ensures.due

pub quantified_application-requires-clause-over : goal.quantified_application-requires-clause-over
quantified_application-requires-clause-over c = over_stays c.args.pool.now c.axioms_application.new.pool c.axioms_application.ensures.extends c.args.branch.now c.requires.over

pub quantified_application-requires-clause-index : goal.quantified_application-requires-clause-index
quantified_application-requires-clause-index c = index_later c.args.pool.now c.axioms_application.new.pool c.axioms_application.ensures.extends c.grow.new.self c.in_ok-grow.ensures

pub quantified_application-requires-clause-free : goal.quantified_application-requires-clause-free
quantified_application-requires-clause-free c = free_grown c.args.pool.now c.axioms_application.new.pool c.args.quantifiers.now c.axioms_application.ensures.extends c.requires.free

pub returns-clause-known : goal.returns-clause-known
returns-clause-known c = on_ok_weaker c.quantified_application.result (λ free. known_stay c.args.shapes.now c.axioms_application.new.pool c.quantified_application.new.pool c.axioms_application.new.known c.quantified_application.ensures.extends c.in_ok-found.ensures.known) c.quantified_application.ensures.free

pub returns-clause-due : goal.returns-clause-due
returns-clause-due c =
    let ns = c.args.pool.now in
    let ms = c.axioms_application.new.pool in
    let ks = c.quantified_application.new.pool in
    let shapes = c.args.shapes.now in
    let b = branch_in ns c.args.branch.now in
    let axioms = subst (λ o. MatchOption o (NoAxiomDue shapes b) (IsExtensionDue shapes ms b)) c.in_default.is c.in_ok-found.ensures.due in
    ok_map c.quantified_application.result _ _
    (λ o h. plain_answer shapes b ks axioms o (fact_goes_back ns ms c.axioms_application.ensures.extends (λ e. MatchOption o (NoInstance e) (IsExtensionDue shapes ks e)) c.args.branch.now c.requires.over h))
    (c.quantified_application.ensures.due shapes)
