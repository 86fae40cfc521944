use Rattle.std.proofs.Common.{◌≡◌, map, take}
use Rattle.resolution.specs.Parameters.{type_parameter_of}
use Rattle.resolution.proofs.declarations.parameters.parameters_of.Given as goal

abbrev pub invariant-loop-parameter : goal.invariant-loop-parameter
invariant-loop-parameter l = l.found ≡ map type_parameter_of (take l.parameter-index l.parameters)
