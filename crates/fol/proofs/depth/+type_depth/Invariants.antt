use Rattle.std.proofs.Common.{◌≡◌, ℕ, ◌+◌, ◌*◌, max, drop}
use Rattle.base.specs.TypeData.{type_size, types_size, types_of}
use Rattle.fol.specs.Depth.{types_depth}
use Rattle.fol.proofs.depth.+type_depth.Given as goal

abbrev pub decreases-is_type_deeper : goal.decreases-is_type_deeper
decreases-is_type_deeper l = 2 * type_size l.of.now

abbrev pub decreases-are_types_deeper : goal.decreases-are_types_deeper
decreases-are_types_deeper l = 2 * types_size l.types.now + 1

abbrev pub decreases-is_any_type_deeper : goal.decreases-is_any_type_deeper
decreases-is_any_type_deeper l = 2 * types_size (types_of l.types.now)

-- no type so far is deeper than the limit
abbrev pub invariant-is_any_type_deeper-loop-one : goal.invariant-is_any_type_deeper-loop-one
invariant-is_any_type_deeper-loop-one l =
    max l.limit (types_depth (types_of l.types)) ≡ max l.limit (types_depth (types_of (drop l.one-index l.types)))
