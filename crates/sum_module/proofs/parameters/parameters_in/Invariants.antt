use Rattle.std.proofs.Common.{take}
use Rattle.sum_module.specs.Parameters.{IsTableOf}
use Rattle.sum_module.proofs.parameters.parameters_in.Given as goal

abbrev pub invariant-loop-member : goal.invariant-loop-member
invariant-loop-member l = IsTableOf l.table (take l.member-index l.members)
