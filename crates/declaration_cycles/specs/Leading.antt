-- Reachability over the indices of declarations.
use Rattle.std.specs.Prelude.{ℕ, List, Contains}
use Rattle.declaration_cycles.specs.declared.edges.Edge.{Edge}

-- an edge leads from i to j
abbrev pub IsEdge : List Edge → ℕ → ℕ → Type 0
IsEdge edges i j = Contains edges (record { from = i; to = j })

-- a path of at least one edge leads from i to j: the transitive closure
pub data Leads (edges : List Edge) : ℕ → ℕ → Type 0 where
  Directly : {i j : ℕ} → IsEdge edges i j → Leads edges i j
  Over : {i j k : ℕ} → IsEdge edges i j → Leads edges j k → Leads edges i k

-- a path leads from i back to i
abbrev pub LeadsBack : List Edge → ℕ → Type 0
LeadsBack edges i = Leads edges i i
