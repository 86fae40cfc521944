-- Graphs over the numbers below a length: for each number the list of the targets of its edges.
use Rattle.std.specs.Prelude.{◌≡◌, ℕ, ◌<◌, List, [], length, slice_index, slice_index_or}

-- there is an edge from i to j
abbrev pub IsEdge : List (List ℕ) → ℕ → ℕ → Type 0
IsEdge graph i j = (k : ℕ) × (k < length (slice_index_or graph i [])) × (slice_index (slice_index_or graph i []) k ≡ j)

-- a path leads from i to j, or i is j: the reflexive transitive closure
pub data Reaches (graph : List (List ℕ)) : ℕ → ℕ → Type 0 where
  Here : {i : ℕ} → Reaches graph i i
  Along : {i j k : ℕ} → IsEdge graph i j → Reaches graph j k → Reaches graph i k

-- a path of at least one edge leads from i to j: the transitive closure
abbrev pub Leads : List (List ℕ) → ℕ → ℕ → Type 0
Leads graph i j = (k : ℕ) × IsEdge graph i k × Reaches graph k j

-- i is on a cycle
abbrev pub IsOnCycle : List (List ℕ) → ℕ → Type 0
IsOnCycle graph i = Leads graph i i

-- each edge leads to a number of the graph
abbrev pub IsWithin : List (List ℕ) → Type 0
IsWithin graph = (i j : ℕ) → IsEdge graph i j → j < length graph

-- a graph within its numbers, and the graph of its reversed edges
pub record AreMirrored (graph sources : List (List ℕ)) : Type 0 where
  pub same : length sources ≡ length graph
  pub within : IsWithin graph
  pub turned : (i j : ℕ) → IsEdge graph i j → IsEdge sources j i
  pub back : (i j : ℕ) → IsEdge sources j i → IsEdge graph i j

-- each reaches the other: they are in one strongly connected component
pub record AreTogether (graph : List (List ℕ)) (i j : ℕ) : Type 0 where
  pub there : Reaches graph i j
  pub back : Reaches graph j i

-- for each number one of those in its strongly connected component, the same for all of these
pub record AreRoots (graph : List (List ℕ)) (roots : List ℕ) : Type 0 where
  pub same : length roots ≡ length graph
  pub within : (i : ℕ) → i < length graph → slice_index roots i < length graph
  pub led : (i : ℕ) → i < length graph → AreTogether graph i (slice_index roots i)
  pub one : (i j : ℕ) → i < length graph → j < length graph → AreTogether graph i j → slice_index roots i ≡ slice_index roots j
