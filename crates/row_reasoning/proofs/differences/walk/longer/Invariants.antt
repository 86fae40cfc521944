use Rattle.std.proofs.Common.{◌≡◌, take}
use Rattle.row_reasoning.proofs.differences.walk.longer.Given as goal

abbrev pub invariant-loop-head : goal.invariant-loop-head
invariant-loop-head l = l.longer.items ≡ take l.head-index l.way
