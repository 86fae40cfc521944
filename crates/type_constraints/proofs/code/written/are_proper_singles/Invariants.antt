use Rattle.std.proofs.Common.{◌≡◌, drop, ◌&&◌}
use Rattle.base.specs.TypeData.{types_of}
use Rattle.typing_rules.specs.ProperTypes.{are_proper_singles}
use Rattle.type_constraints.proofs.code.written.are_proper_singles.Given as goal

abbrev pub invariant-loop-term : goal.invariant-loop-term
invariant-loop-term l =
    (l.are && are_proper_singles l.structs (types_of (drop l.term-index l.terms))) ≡ are_proper_singles l.structs (types_of l.terms)
