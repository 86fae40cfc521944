use Rattle.std.proofs.Common.{length, ◌+◌, ◌*◌}
use Rattle.tableau.specs.Marks.{IsWalk, unmarked}
use Rattle.tableau.proofs.marking.mark.Given as goal

abbrev pub invariant-loop-number : goal.invariant-loop-number
invariant-loop-number l = IsWalk l.pool l.top l.value l.fn.log l.log l.waiting.items

abbrev pub decreases-loop-number : goal.decreases-loop-number
decreases-loop-number l = 4 * unmarked l.log l.value (length l.pool) + length l.waiting.items
