use Rattle.std.proofs.Common.{◌≡◌, map, take}
use Rattle.resolution.specs.Around.{name_of_typed}
use Rattle.resolution.proofs.clauses.around.names_of.Given as goal

abbrev pub invariant-loop-one : goal.invariant-loop-one
invariant-loop-one l = l.names ≡ map name_of_typed (take l.one-index l.typed)
