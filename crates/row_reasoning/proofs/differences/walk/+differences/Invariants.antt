use Rattle.std.proofs.Common.{◌+◌, ◌*◌, max}
use Rattle.row_reasoning.proofs.differences.walk.+differences.Given as goal

abbrev pub decreases-differences : goal.decreases-differences
decreases-differences l = 2 * l.one

abbrev pub decreases-parts : goal.decreases-parts
decreases-parts l = 2 * max l.one.first l.one.second + 1
