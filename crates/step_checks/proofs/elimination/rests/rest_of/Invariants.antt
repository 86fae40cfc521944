use Rattle.std.proofs.Common.{take}
use Rattle.linear_arith.specs.Rest.{IsRest}
use Rattle.step_checks.proofs.elimination.rests.rest_of.Given as goal

abbrev pub invariant-loop-value : goal.invariant-loop-value
invariant-loop-value l = IsRest l.row (take l.value-index l.values) l.left
