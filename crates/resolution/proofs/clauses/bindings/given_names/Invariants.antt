use Rattle.std.proofs.Common.{◌≡◌, map, take}
use Rattle.body_names.specs.SpecTrees.{field_of_value}
use Rattle.resolution.proofs.clauses.bindings.given_names.Given as goal

abbrev pub invariant-loop-one : goal.invariant-loop-one
invariant-loop-one l = l.names ≡ map field_of_value (take l.one-index l.bindings)
