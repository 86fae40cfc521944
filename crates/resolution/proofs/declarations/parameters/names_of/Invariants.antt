use Rattle.std.proofs.Common.{◌≡◌, map, take}
use Rattle.resolution.specs.Parameters.{type_name_of}
use Rattle.resolution.proofs.declarations.parameters.names_of.Given as goal

abbrev pub invariant-loop-parameter : goal.invariant-loop-parameter
invariant-loop-parameter l = l.names.items ≡ map type_name_of (take l.parameter-index l.parameters)
