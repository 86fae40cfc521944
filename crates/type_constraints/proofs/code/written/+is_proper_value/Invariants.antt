use Rattle.std.proofs.Common.{◌≡◌, drop, ◌&&◌}
use Rattle.base.specs.TypeData.{types_of}
use Rattle.typing_rules.specs.ProperTypes.{are_proper_values}
use Rattle.type_constraints.proofs.code.written.+is_proper_value.Given as goal

abbrev pub invariant-are_proper_values-loop-term : goal.invariant-are_proper_values-loop-term
invariant-are_proper_values-loop-term l =
    (l.are && are_proper_values l.structs (types_of (drop l.term-index l.terms))) ≡ are_proper_values l.structs (types_of l.terms)
