use Rattle.std.proofs.Common.{◌≡◌, ◌+◌, ◌*◌, map, take}
use Rattle.typing_rules.specs.Pools.{type_at, types}
use Rattle.body_types.proofs.Parts.{above}
use Rattle.body_types.proofs.spec.terms.+term_of.Given as goal

abbrev pub invariant-terms_of-loop-number : goal.invariant-terms_of-loop-number
invariant-terms_of-loop-number l = l.items.items ≡ map (type_at (types l.pool)) (take l.number-index l.numbers)

abbrev pub decreases-wrapped_term : goal.decreases-wrapped_term
decreases-wrapped_term l = 4 * l.part + 4

abbrev pub decreases-terms_of : goal.decreases-terms_of
decreases-terms_of l = 4 * above l.numbers.now

abbrev pub decreases-struct_term : goal.decreases-struct_term
decreases-struct_term l = 4 * above l.arguments.now + 1

abbrev pub decreases-tuple_term : goal.decreases-tuple_term
decreases-tuple_term l = 4 * above l.parts.now + 1

abbrev pub decreases-term_of : goal.decreases-term_of
decreases-term_of l = 4 * l.number + 3
