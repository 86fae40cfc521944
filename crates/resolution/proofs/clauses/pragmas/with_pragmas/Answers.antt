use Rattle.resolution.proofs.PragmaLaws.{settings_more}
use Rattle.resolution.proofs.clauses.pragmas.with_pragmas.Goals as goal

pub loop-pragma-preserved : goal.loop-pragma-preserved
loop-pragma-preserved c = settings_more c.args.pragmas.now c.loop-pragma.pragma-index c.pragma-item.result c.args.before c.loop-pragma.settings c.with_pragma-settings.result c.loop-pragma-test.true c.pragma-item.is c.loop-pragma.invariant c.with_pragma-settings.ensures
