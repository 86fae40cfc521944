use Rattle.std.proofs.Common.{subst}
use Rattle.std.specs.Prelude.{MatchOption}
use Rattle.tableau.specs.PoolBranches.{branch_in}
use Rattle.tableau.specs.Steps.{NoSplitAt, AreCasesDue}
use Rattle.certificates.specs.ProofTraces.{IsLate, Late}
use Rattle.search.specs.Decisions.{IsExtensionDue}
use Rattle.search.proofs.ApplicationLemmas.{fact_stays, fact_goes_back}
use Rattle.strategy.proofs.due.promising.application_at.Goals as goal

pub returns-clause-due : goal.returns-clause-due
returns-clause-due c = λ shapes late. (
    let ns = c.args.pool.now in
    let ms = c.cases_at.new.pool in
    let d = c.args.branch.now in
    let b = branch_in ms d in
    let due = subst (λ o. MatchOption o (NoSplitAt b c.args.entry) (λ numbers. AreCasesDue ms b c.args.entry numbers.items)) c.in-Some.is c.in_ok-formulas.ensures.due in
    fact_goes_back ns ms c.cases_at.ensures.extends (λ e. IsExtensionDue shapes ms e c.split_application.result) d c.requires.over
    (c.split_application.ensures shapes ms due (Late (fact_stays ns ms c.cases_at.ensures.extends (IsLate shapes) d c.requires.over late))))
