-- Which vertices of a graph reach marked ones.
use Rattle.std.specs.Prelude.{◌≡◌, ◌⊎◌, ℕ, ◌<◌, Bool, true, false, IsTrue, List, Contains, slice_index_or}
use Rattle.base.specs.declared.marked_cycles.edge.MarkedEdge.{MarkedEdge}
use Rattle.base.specs.MarkedCycles.{IsEdge}

-- over any number of edges
pub data Path (edges : List MarkedEdge) : ℕ → ℕ → Type 0 where
  End : {i : ℕ} → Path edges i i
  Along : {i j k : ℕ} → IsEdge edges i j false → Path edges j k → Path edges i k

-- a vertex reaches a marked one
pub record LeadsToMark (edges : List MarkedEdge) (marks : List Bool) (i : ℕ) : Type 0 where
  pub last : ℕ
  pub within : Path edges i last
  pub marked : IsTrue (slice_index_or marks last false)

-- no edge is marked
abbrev pub AreUnmarked : List MarkedEdge → Type 0
AreUnmarked edges = (i j : ℕ) → IsEdge edges i j true → ⊥

abbrev pub edge : ℕ → ℕ → Bool → MarkedEdge
edge i j marked = record { from = i; to = j; is_marked = marked }

-- What is added to the edges: from a last vertex a marked edge to each of the first so many vertices, and from those of
-- them that are marked an edge to it.
pub record HasLast (edges : List MarkedEdge) (marks : List Bool) (all : List MarkedEdge) (last count : ℕ) : Type 0 where
  pub stays : (e : MarkedEdge) → Contains edges e → Contains all e
  pub back : (k : ℕ) → k < count → Contains all (edge last k true)
  pub ends : (k : ℕ) → k < count → IsTrue (slice_index_or marks k false) → Contains all (edge k last false)
  pub only : (e : MarkedEdge) → Contains all e
      → Contains edges e ⊎ ((k : ℕ) × ((k < count) × ((e ≡ edge last k true) ⊎ (IsTrue (slice_index_or marks k false) × (e ≡ edge k last false)))))
