use Rattle.std.proofs.Common.{subst}
use Rattle.std.specs.Prelude.{IfSome}
use Rattle.tableau.specs.PoolBranches.{branch_in}
use Rattle.term_pool.proofs.GrowthLemmas.{extends_then}
use Rattle.search.specs.Decisions.{IsExtensionDue}
use Rattle.search.proofs.ApplicationLemmas.{over_stays, fact_goes_back, ok_map}
use Rattle.strategy.proofs.LateLemmas.{classes_stay}
use Rattle.strategy.proofs.due.promising.promising_application.Goals as goal

pub returns-in-Some-clause-due : goal.returns-in-Some-clause-due
returns-in-Some-clause-due c = λ shapes late. (
    subst (λ o. IfSome o (IsExtensionDue shapes c.ranked_application.new.pool (branch_in c.args.pool.now c.args.branch.now))) c.in-Some.is (c.in_ok-application.ensures.due shapes late))

pub guessed_application-requires-clause-over : goal.guessed_application-requires-clause-over
guessed_application-requires-clause-over c = over_stays c.args.pool.now c.ranked_application.new.pool c.ranked_application.ensures.extends c.args.branch.now c.requires.over

pub guessed_application-requires-clause-classes : goal.guessed_application-requires-clause-classes
guessed_application-requires-clause-classes c = classes_stay c.args.pool.now c.ranked_application.new.pool c.ranked_application.ensures.extends c.args.branch.now c.requires.over c.args.classes.now c.requires.classes

pub returns-clause-extends : goal.returns-clause-extends
returns-clause-extends c = extends_then c.ranked_application.ensures.extends c.guessed_application.ensures.extends

pub returns-clause-due : goal.returns-clause-due
returns-clause-due c = λ shapes late. (
    let ns = c.args.pool.now in
    let ms = c.ranked_application.new.pool in
    let ks = c.guessed_application.new.pool in
    ok_map c.guessed_application.result _ _
    (λ o h. fact_goes_back ns ms c.ranked_application.ensures.extends (λ e. IfSome o (IsExtensionDue shapes ks e)) c.args.branch.now c.requires.over h)
    (c.guessed_application.ensures.due shapes))
