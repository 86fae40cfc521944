-- The graph of given edges, and the components that contain a marked one.
use Rattle.std.specs.Prelude.{ℕ, ◌==◌, Bool, ◌&&◌, List, slice_index}
use Rattle.base.specs.GraphReachability as graph
use Rattle.base.specs.declared.marked_cycles.edge.MarkedEdge.{MarkedEdge}
use Rattle.base.specs.MarkedCycles.{IsEdge}

-- the edges of the graph are these, whatever their marks
pub record HasEdgesOf (numbers : List (List ℕ)) (edges : List MarkedEdge) : Type 0 where
  pub there : (i j : ℕ) (marked : Bool) → IsEdge edges i j marked → graph.IsEdge numbers i j
  pub back : (i j : ℕ) → graph.IsEdge numbers i j → (marked : Bool) × IsEdge edges i j marked

-- the edge is marked, and lies inside the component with this root
abbrev pub marks_root : List ℕ → ℕ → MarkedEdge → Bool
marks_root roots root edge = edge.is_marked && (slice_index roots edge.from == root && slice_index roots edge.to == root)
