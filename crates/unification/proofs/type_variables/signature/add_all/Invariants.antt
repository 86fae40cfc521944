use Rattle.std.proofs.Common.{◌≡◌, ◌+◌, map, take, length}
use Rattle.unification.specs.Slots.{Typing, value, list_at, Meets}
use Rattle.unification.specs.Grown.{Grows}
use Rattle.unification.proofs.type_variables.signature.add_all.Given as goal

abbrev pub invariant-loop-term : goal.invariant-loop-term
invariant-loop-term l = record {
  grows : Grows l.fn.slots.items (λ t. Unit {0}) l.slots.items (λ t. Unit {0});
  have : (t : Typing) → Meets l.slots.items t → list_at t (length l.fn.slots.items) l.term-index ≡ map (value t) (take l.term-index l.terms);
  count : length l.slots.items ≡ length l.fn.slots.items + l.term-index;
}
