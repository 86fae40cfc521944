use Rattle.std.proofs.Common.{◌≡◌, take}
use Rattle.sum_module.specs.Parameters.{names_of}
use Rattle.sum_module.proofs.parameters.names_of.Given as goal

abbrev pub invariant-loop-input : goal.invariant-loop-input
invariant-loop-input l = l.items.items ≡ names_of (take l.input-index l.inputs)
