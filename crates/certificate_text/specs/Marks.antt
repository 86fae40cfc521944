-- The nodes of a pool that are needed by some named ones: these, and the parts of needed nodes.
use Rattle.std.specs.Prelude.{◌≡◌, ◌⊎◌, ◌↔◌, ℕ, ◌<◌, ◌≤◌, Bool, true, false, List, [], ◌∷◌, length, slice_get, slice_index_or, Option, Some, None}
use Rattle.std.specs.List.{Contains}
use Rattle.term_pool.specs.declared.node.Node.{Node}
use Rattle.term_pool.specs.declared.node.Node.TheVariants.{Leaf as LeafNode, One as OneNode, Two as TwoNode, Three as ThreeNode}

abbrev pub parts_of : Node → List ℕ
parts_of (LeafNode h) = []
parts_of (OneNode h a) = a ∷ []
parts_of (TwoNode h a b) = a ∷ b ∷ []
parts_of (ThreeNode h a b c) = a ∷ b ∷ c ∷ []

abbrev pub parts_in : Option Node → List ℕ
parts_in None = []
parts_in (Some n) = parts_of n

-- the parts of the node with this number
abbrev pub parts_at : List Node → ℕ → List ℕ
parts_at ns i = parts_in (slice_get ns i)

-- ---- needed nodes

-- the node is needed if these numbers are named
pub data IsNeeded (ns : List Node) (names : List ℕ) : ℕ → Type 0 where
  AsNamed : (i : ℕ) → Contains names i → IsNeeded ns names i
  AsPart : (i j : ℕ) → Contains (parts_at ns j) i → IsNeeded ns names j → IsNeeded ns names i

-- ---- marks

abbrev pub IsMarked : List Bool → ℕ → Type 0
IsMarked marks i = slice_index_or marks i false ≡ true

-- the marked numbers are those marked before, and these numbers
pub record MarksAlso (old new : List Bool) (numbers : List ℕ) : Type 0 where
  pub len : length new ≡ length old
  pub marked : (i : ℕ) → i < length old → IsMarked new i ↔ (IsMarked old i ⊎ Contains numbers i)

-- the parts of marked nodes from this number on are marked
pub record AreInside (ns : List Node) (start : ℕ) (marks : List Bool) : Type 0 where
  pub each : (i a : ℕ) → start ≤ i → IsMarked marks i → Contains (parts_at ns i) a → IsMarked marks a

-- exactly the needed nodes are marked
pub record AreNeeded (ns : List Node) (names : List ℕ) (marks : List Bool) : Type 0 where
  pub one_each : length marks ≡ length ns
  pub marked : (i : ℕ) → i < length ns → IsMarked marks i ↔ IsNeeded ns names i
