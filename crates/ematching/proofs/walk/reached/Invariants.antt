use Rattle.std.proofs.Common.{length, ◌+◌, ◌*◌}
use Rattle.tableau.specs.Marks.{unmarked}
use Rattle.ematching.proofs.WalkLemmas.{IsWalk}
use Rattle.ematching.proofs.walk.reached.Given as goal

abbrev pub invariant-loop-number : goal.invariant-loop-number
invariant-loop-number l = IsWalk l.pool l.way l.top l.seen l.numbers.items l.waiting.items

abbrev pub decreases-loop-number : goal.decreases-loop-number
decreases-loop-number l = 4 * unmarked l.seen 0 (length l.pool) + length l.waiting.items
