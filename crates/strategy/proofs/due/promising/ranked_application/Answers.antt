use Rattle.std.specs.Prelude.{IfSome}
use Rattle.certificates.specs.ProofTraces.{IsLate}
use Rattle.term_pool.proofs.GrowthLemmas.{extends_then}
use Rattle.search.specs.Decisions.{IsExtensionDue}
use Rattle.search.proofs.ApplicationLemmas.{over_stays, fact_stays, fact_goes_back, ok_map}
use Rattle.strategy.proofs.due.promising.ranked_application.Goals as goal

pub application_at-requires : goal.application_at-requires
application_at-requires c = record { over = over_stays c.args.pool.now c.best_split.new.pool c.best_split.ensures.extends c.args.branch.now c.requires.over }

pub returns-clause-extends : goal.returns-clause-extends
returns-clause-extends c = extends_then c.best_split.ensures.extends c.application_at.ensures.extends

pub returns-clause-due : goal.returns-clause-due
returns-clause-due c = λ shapes late. (
    let ns = c.args.pool.now in
    let ms = c.best_split.new.pool in
    let ks = c.application_at.new.pool in
    let d = c.args.branch.now in
    ok_map c.application_at.result _ _
    (λ o h. fact_goes_back ns ms c.best_split.ensures.extends (λ e. IfSome o (IsExtensionDue shapes ks e)) d c.requires.over h)
    (c.application_at.ensures.due shapes (fact_stays ns ms c.best_split.ensures.extends (IsLate shapes) d c.requires.over late)))
