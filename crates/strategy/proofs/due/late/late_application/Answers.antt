use Rattle.std.proofs.Common.{subst}
use Rattle.std.specs.Prelude.{IfSome, MatchOption}
use Rattle.tableau.specs.PoolBranches.{branch_in}
use Rattle.term_pool.proofs.GrowthLemmas.{extends_then}
use Rattle.certificates.specs.ProofTraces.{IsLate}
use Rattle.search.specs.Decisions.{NothingLate, IsExtensionDue}
use Rattle.search.proofs.ApplicationLemmas.{over_stays, fact_stays, fact_goes_back, ok_map}
use Rattle.strategy.proofs.LateLemmas.{classes_stay}
use Rattle.strategy.proofs.due.late.late_application.Goals as goal

pub returns-in-Some-clause-due : goal.returns-in-Some-clause-due
returns-in-Some-clause-due c = λ shapes late. (
    subst (λ o. IfSome o (IsExtensionDue shapes c.ranked_application.new.pool (branch_in c.args.pool.now c.args.branch.now))) c.in-Some.is (c.in_ok-application.ensures.due shapes late))

pub first_late_application-requires-clause-over : goal.first_late_application-requires-clause-over
first_late_application-requires-clause-over c = over_stays c.args.pool.now c.ranked_application.new.pool c.ranked_application.ensures.extends c.args.branch.now c.requires.over

pub first_late_application-requires-clause-classes : goal.first_late_application-requires-clause-classes
first_late_application-requires-clause-classes c = classes_stay c.args.pool.now c.ranked_application.new.pool c.ranked_application.ensures.extends c.args.branch.now c.requires.over c.args.classes.now c.requires.classes

pub returns-clause-extends : goal.returns-clause-extends
returns-clause-extends c = extends_then c.ranked_application.ensures.extends c.first_late_application.ensures.extends

pub returns-clause-due : goal.returns-clause-due
returns-clause-due c = λ shapes late. (
    let ns = c.args.pool.now in
    let ms = c.ranked_application.new.pool in
    let ks = c.first_late_application.new.pool in
    let d = c.args.branch.now in
    ok_map c.first_late_application.result _ _
    (λ o h. fact_goes_back ns ms c.ranked_application.ensures.extends (λ e. MatchOption o (NothingLate e) (IsExtensionDue shapes ks e)) d c.requires.over h)
    (c.first_late_application.ensures.due shapes (fact_stays ns ms c.ranked_application.ensures.extends (IsLate shapes) d c.requires.over late)))
