use Rattle.std.proofs.Common.{◌≡◌, ◌<◌, ℕ, false, get_or, length, take}
use Rattle.std.specs.List.{list_any}
use Rattle.base.specs.Graphs.{marks_root}
use Rattle.base.proofs.marked_cycles.marks.marked_roots.Given as goal

abbrev pub invariant-loop-edge : goal.invariant-loop-edge
invariant-loop-edge l = record {
  len : length l.marks.items ≡ length l.roots;
  marked : (r : ℕ) → r < length l.roots → get_or l.marks.items r false ≡ list_any (marks_root l.roots r) (take l.edge-index l.edges);
}
