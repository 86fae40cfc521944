use Rattle.std.proofs.Common.{subst}
use Rattle.std.specs.Prelude.{MatchOption}
use Rattle.term_pool.proofs.GrowthLemmas.{extends_then}
use Rattle.tableau.specs.PoolBranches.{branch_in}
use Rattle.axiom_strategy.specs.declared.due.WantedAxioms.TheVariants.{All as Everything}
use Rattle.axiom_strategy.specs.Due.{NoAxiom}
use Rattle.axiom_strategy.proofs.KnownLemmas.{known_stay}
use Rattle.axiom_strategy.specs.Orders.{NoOrder, IsOrder}
use Rattle.search.specs.Decisions.{IsExtensionDue}
use Rattle.search.proofs.ApplicationLemmas.{over_stays, fact_goes_back}
use Rattle.strategy.proofs.LateLemmas.{classes_stay}
use Rattle.strategy.proofs.PlainLemmas.{no_axiom}
use Rattle.strategy.proofs.due.plain.axioms_application.Goals as goal

pub returns-in-Some-clause-due : goal.returns-in-Some-clause-due
returns-in-Some-clause-due c =
    let shapes = c.args.shapes.now in
    let b = branch_in c.args.pool.now c.args.branch.now in
    subst (λ o. MatchOption o (NoAxiom shapes b Everything) (IsExtensionDue shapes c.table_application.new.pool b)) c.in-Some.is c.in_ok-found.ensures.due

pub next_order-requires-clause-over : goal.next_order-requires-clause-over
next_order-requires-clause-over c = over_stays c.args.pool.now c.table_application.new.pool c.table_application.ensures.extends c.args.branch.now c.requires.over

pub next_order-requires-clause-classes : goal.next_order-requires-clause-classes
next_order-requires-clause-classes c = classes_stay c.args.pool.now c.table_application.new.pool c.table_application.ensures.extends c.args.branch.now c.requires.over c.args.classes.now c.requires.classes

pub returns-in_default-2-clause-known : goal.returns-in_default-2-clause-known
returns-in_default-2-clause-known c = known_stay c.args.shapes.now c.table_application.new.pool c.next_order.new.pool c.table_application.new.known c.next_order.ensures.extends c.in_ok-found.ensures.known

pub returns-in_default-2-clause-due : goal.returns-in_default-2-clause-due
returns-in_default-2-clause-due c =
    let shapes = c.args.shapes.now in
    let os = c.next_order.new.pool in
    let b = branch_in c.args.pool.now c.args.branch.now in
    let e = branch_in os c.args.branch.now in
    let both = extends_then c.table_application.ensures.extends c.next_order.ensures.extends in
    let table = subst (λ o. MatchOption o (NoAxiom shapes b Everything) (IsExtensionDue shapes c.table_application.new.pool b)) c.in_default.is c.in_ok-found.ensures.due in
    let orders = subst (λ o. MatchOption o (NoOrder e) (IsOrder os e)) c.in_default-2.is c.in_ok-order.ensures.due in
    no_axiom shapes b table (fact_goes_back c.args.pool.now os both NoOrder c.args.branch.now c.requires.over orders)

pub returns-clause-known : goal.returns-clause-known
returns-clause-known c = known_stay c.args.shapes.now c.table_application.new.pool c.next_order.new.pool c.table_application.new.known c.next_order.ensures.extends c.in_ok-found.ensures.known

pub returns-clause-due : goal.returns-clause-due
returns-clause-due c =
    let shapes = c.args.shapes.now in
    let os = c.next_order.new.pool in
    let e = branch_in os c.args.branch.now in
    let both = extends_then c.table_application.ensures.extends c.next_order.ensures.extends in
    let found = subst (λ o. MatchOption o (NoOrder e) (IsOrder os e)) c.in-Some-2.is c.in_ok-order.ensures.due in
    fact_goes_back c.args.pool.now os both (λ h. IsExtensionDue shapes os h c.in_ok-application.application) c.args.branch.now c.requires.over
    (c.in_ok-application.ensures shapes os e found.formula found.numbered (found.due shapes))
