use Rattle.std.proofs.Common.{◌≡◌, ℕ, Some, length}
use Rattle.std.specs.Prelude.{slice_get}
use Rattle.congruence_closure.specs.Signatures.{class_in}
use Rattle.congruence_closure.specs.States.{IsNear}
use Rattle.congruence_closure.specs.declared.classes.link.Link.{Link}
use Rattle.congruence_closure.proofs.classes.state.next_link.Given as goal

abbrev pub invariant-loop-link : goal.invariant-loop-link
invariant-loop-link l = record {
  near : (i j : ℕ) → IsNear (class_in l.classes) l.fn.waiting.items i j → IsNear (class_in l.classes) l.waiting.items i j;
  among : (k : ℕ) (m : Link) → slice_get l.waiting.items k ≡ Some m → slice_get l.fn.waiting.items k ≡ Some m;
}

abbrev pub decreases-loop-link : goal.decreases-loop-link
decreases-loop-link l = length l.waiting.items
