use Rattle.std.proofs.Common.{ℕ, List, length, take}
use Rattle.unification.specs.Terms.{AllWithin}
use Rattle.unification.specs.declared.type_variables.slots.Slot.{Slot}
use Rattle.type_solver.specs.Equations.{Keeps}
use Rattle.type_solver.specs.Tuples.{TupleSaid, PartsSaid}
use Rattle.type_solver.proofs.returned.lent_parts.Given as goal

abbrev pub invariant-loop-i : goal.invariant-loop-i
invariant-loop-i l = record {
  keeps : Keeps l.fn.slots.items l.slots.items;
  within : AllWithin (length l.slots.items) l.terms.items;
  said : (before : List Slot) (e : ℕ) → TupleSaid before l.fn.slots.items e l.parts → PartsSaid before l.slots.items e 0 l.parts.first (take l.i l.types) l.terms.items;
}
