use Rattle.std.proofs.Common.{arith}
use Rattle.std.proofs.lemmas.Grind.{common_steps}
use Rattle.report.proofs.LineLemmas.{feeds_at, length-feeds_from}
use Rattle.report.proofs.lines.LineFeeds.new.Goals as goal

pub loop-position-preserved : goal.loop-position-preserved
loop-position-preserved c = grind (arith, common_steps, feeds_at c.args.bytes.now c.loop-position.position)

pub invariant_of-result : goal.invariant_of-result
invariant_of-result c = grind (arith, common_steps, length-feeds_from 0 c.args.bytes.now)
