use Rattle.std.proofs.Common.{◌≡◌, take}
use Rattle.type_check.specs.Leading.{HasLast}
use Rattle.type_check.proofs.schemas.leading.with_last.Given as goal

abbrev pub invariant-loop-edge : goal.invariant-loop-edge
invariant-loop-edge l = l.all.items ≡ take l.edge-index l.edges

abbrev pub invariant-loop-number : goal.invariant-loop-number
invariant-loop-number l = HasLast l.edges l.marks l.all.items l.last l.number
