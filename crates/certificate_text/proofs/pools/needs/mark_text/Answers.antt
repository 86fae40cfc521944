use Rattle.certificate_text.specs.Names.{named_by}
use Rattle.certificate_text.proofs.MarkLemmas.{names_more}
use Rattle.certificate_text.proofs.pools.needs.mark_text.Goals as goal

pub loop-application-preserved : goal.loop-application-preserved
loop-application-preserved c =
    names_more named_by c.args.marks.now c.loop-application.marks c.mark_application.new.marks c.args.text.now c.loop-application.application-index c.application-item.result c.loop-application-test.true c.application-item.is c.loop-application.invariant c.mark_application.ensures
