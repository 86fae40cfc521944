use Rattle.std.proofs.Common.{◌≡◌, ◌+◌, take, length}
use Rattle.unification.specs.Slots.{Typing, list_at, Meets}
use Rattle.type_solver.specs.Equations.{Keeps}
use Rattle.type_solver.proofs.tuples.add_types.Given as goal

abbrev pub invariant-loop-of : goal.invariant-loop-of
invariant-loop-of l = record {
  keeps : Keeps l.fn.slots.items l.slots.items;
  have : (t : Typing) → Meets l.slots.items t → list_at t (length l.fn.slots.items) l.of-index ≡ take l.of-index l.types;
  count : length l.slots.items ≡ length l.fn.slots.items + l.of-index;
}
