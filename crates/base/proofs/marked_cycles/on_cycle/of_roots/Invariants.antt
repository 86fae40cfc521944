use Rattle.std.proofs.Common.{◌≡◌, ◌<◌, ℕ, false, get_or, length}
use Rattle.base.proofs.marked_cycles.on_cycle.of_roots.Given as goal

abbrev pub invariant-loop-root : goal.invariant-loop-root
invariant-loop-root l = record {
  len : length l.found.items ≡ l.root-index;
  found : (i : ℕ) → i < l.root-index → get_or l.found.items i false ≡ get_or l.marks (get_or l.roots i 0) false;
}
