use Rattle.std.proofs.Common.{◌≡◌, map, take}
use Rattle.body_names.specs.PatternTrees.{field_of_pattern}
use Rattle.body_names.proofs.code.patterns.fields_of.Given as goal

abbrev pub invariant-loop-one : goal.invariant-loop-one
invariant-loop-one l = l.names ≡ map field_of_pattern (take l.one-index l.fields)
