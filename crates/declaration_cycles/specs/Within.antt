-- Graphs that have given edges.
use Rattle.std.specs.Prelude.{ℕ, ◌<◌, List}
use Rattle.base.specs.GraphReachability as graph
use Rattle.declaration_cycles.specs.declared.edges.Edge.{Edge}
use Rattle.declaration_cycles.specs.Leading.{IsEdge}

-- the edge joins indices below the count
pub record IsWithin (count : ℕ) (edge : Edge) : Type 0 where
  pub begins : edge.from < count
  pub ends : edge.to < count

-- the edges of the graph are exactly these
pub record HasEdgesOf (numbers : List (List ℕ)) (edges : List Edge) : Type 0 where
  pub there : (i j : ℕ) → IsEdge edges i j → graph.IsEdge numbers i j
  pub back : (i j : ℕ) → graph.IsEdge numbers i j → IsEdge edges i j
