-- Cycles with a marked edge.
use Rattle.std.specs.Prelude.{ℕ, ◌<◌, Bool, true, ◌||◌, List, Contains}
use Rattle.base.specs.declared.marked_cycles.edge.MarkedEdge.{MarkedEdge}

-- the edge is between numbers below the count
pub record IsWithin (count : ℕ) (edge : MarkedEdge) : Type 0 where
  pub begins : edge.from < count
  pub ends : edge.to < count

-- there is an edge from i to j with this mark
abbrev pub IsEdge : List MarkedEdge → ℕ → ℕ → Bool → Type 0
IsEdge edges i j marked = Contains edges (record { from = i; to = j; is_marked = marked })

-- a path of at least one edge leads from i to j, and the truth value says whether one of its edges is marked
pub data Leads (edges : List MarkedEdge) : ℕ → ℕ → Bool → Type 0 where
  Directly : {i j : ℕ} {marked : Bool} → IsEdge edges i j marked → Leads edges i j marked
  Over : {i j k : ℕ} {one more : Bool} → IsEdge edges i j one → Leads edges j k more → Leads edges i k (one || more)

-- i is on a cycle with a marked edge
abbrev pub IsOnMarkedCycle : List MarkedEdge → ℕ → Type 0
IsOnMarkedCycle edges i = Leads edges i i true
