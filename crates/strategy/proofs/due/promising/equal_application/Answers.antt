use Rattle.std.proofs.Common.{subst}
use Rattle.std.specs.Prelude.{IfSome}
use Rattle.tableau.specs.PoolBranches.{branch_in}
use Rattle.axiom_strategy.specs.Orders.{IsOrder}
use Rattle.search.specs.Decisions.{IsExtensionDue}
use Rattle.search.proofs.ApplicationLemmas.{fact_goes_back}
use Rattle.strategy.proofs.due.promising.equal_application.Goals as goal

pub returns-clause-due : goal.returns-clause-due
returns-clause-due c = λ shapes. (
    let os = c.equal_order.new.pool in
    let e = branch_in os c.args.branch.now in
    let found = subst (λ o. IfSome o (IsOrder os e)) c.in-Some.is c.in_ok-order.ensures.due in
    fact_goes_back c.args.pool.now os c.equal_order.ensures.extends (λ h. IsExtensionDue shapes os h c.in_ok-application.application) c.args.branch.now c.requires.over
    (c.in_ok-application.ensures shapes os e found.formula found.numbered (found.due shapes)))
