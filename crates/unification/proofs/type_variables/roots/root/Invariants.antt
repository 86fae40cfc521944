use Rattle.std.proofs.Common.{◌≡◌, ◌<◌, ◌≤◌, length, ℕ}
use Rattle.unification.specs.Slots.{Typing, Meets, Becomes, slot_at, IsRoot, work}
use Rattle.unification.proofs.type_variables.roots.root.Given as goal

abbrev pub invariant-loop-next : goal.invariant-loop-next
invariant-loop-next l = record {
  within : l.at < length l.slots;
  becomes : Becomes l.fn.slots (λ t. Unit {0}) l.slots (λ t. Unit {0});
  same : (t : Typing) → Meets l.slots t → t l.variable ≡ t l.at;
  stays : (p : ℕ) → IsRoot (slot_at l.fn.slots p) → slot_at l.slots p ≡ slot_at l.fn.slots p;
  less : work l.slots ≤ work l.fn.slots;
}

abbrev pub decreases-loop-next : goal.decreases-loop-next
decreases-loop-next l = l.at
