use Rattle.std.proofs.Common.{◌≡◌, ◌+◌, take, length}
use Rattle.unification.specs.Slots.{Typing, list_at, Meets}
use Rattle.unification.specs.Grown.{Grows}
use Rattle.unification.proofs.type_variables.heads.add_types.Given as goal

abbrev pub invariant-loop-of : goal.invariant-loop-of
invariant-loop-of l = record {
  grows : Grows l.fn.slots.items (λ t. Unit {0}) l.slots.items (λ t. Unit {0});
  have : (t : Typing) → Meets l.slots.items t → list_at t (length l.fn.slots.items) l.of-index ≡ take l.of-index l.types;
  count : length l.slots.items ≡ length l.fn.slots.items + l.of-index;
}
