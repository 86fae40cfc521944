use Rattle.std.proofs.Common.{◌≡◌, length}
use Rattle.unification.specs.Slots.{Typing, Meets, Fits}
use Rattle.unification.proofs.type_variables.open.open_slots.Given as goal

abbrev pub invariant-loop-i : goal.invariant-loop-i
invariant-loop-i l = record {
  same_length : length l.slots.items ≡ l.i;
  fits : Fits l.slots.items;
  start : (t : Typing) → Meets l.slots.items t;
}
