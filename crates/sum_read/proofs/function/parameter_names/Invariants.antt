use Rattle.std.proofs.Common.{◌≡◌, Some, take}
use Rattle.sum_read.specs.Each.{each}
use Rattle.sum_read.specs.Functions.{parameter_name}
use Rattle.sum_read.proofs.function.parameter_names.Given as goal

abbrev pub invariant-loop-parameter : goal.invariant-loop-parameter
invariant-loop-parameter l = each parameter_name (take l.parameter-index l.parameters) ≡ Some l.names.items
