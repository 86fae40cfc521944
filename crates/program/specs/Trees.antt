-- The trees that nodes in a list represent, each node after its children.
use Rattle.std.specs.Prelude.{◌≡◌, ℕ, ◌<◌, List, [], ◌∷◌, ◌++◌, map, length, All, slice_index_or}
use Rattle.program.specs.declared.arena.Node.{Node}
use Rattle.program.specs.declared.arena.Node.TheVariants.{Leaf, Unary, Binary, If, Many}

mutual
  pub data Tree (L U B M : Type 0) : Type 0 where
    LeafTree : L → Tree L U B M
    UnaryTree : U → Tree L U B M → Tree L U B M
    BinaryTree : B → Tree L U B M → Tree L U B M → Tree L U B M
    IfTree : Tree L U B M → Tree L U B M → Tree L U B M → Tree L U B M
    ManyTree : M → Trees L U B M → Tree L U B M
    -- the tree of a child that is not before its parent
    BadTree : Tree L U B M

  pub data Trees (L U B M : Type 0) : Type 0 where
    NoTrees : Trees L U B M
    MoreTrees : Tree L U B M → Trees L U B M → Trees L U B M

abbrev pub trees_of : {L U B M : Type 0} → List (Tree L U B M) → Trees L U B M
trees_of [] = NoTrees
trees_of (t ∷ ts) = MoreTrees t (trees_of ts)

-- the tree at an index
abbrev pub at : {L U B M : Type 0} → List (Tree L U B M) → ℕ → Tree L U B M
at ts i = slice_index_or ts i BadTree

-- the tree of a node, given the trees before it
abbrev pub tree_of : {L U B M : Type 0} → List (Tree L U B M) → Node L U B M → Tree L U B M
tree_of ts (Leaf l) = LeafTree l
tree_of ts (Unary u a) = UnaryTree u (at ts a)
tree_of ts (Binary o a b) = BinaryTree o (at ts a) (at ts b)
tree_of ts (If c a b) = IfTree (at ts c) (at ts a) (at ts b)
tree_of ts (Many m xs) = ManyTree m (trees_of (map (at ts) xs))

-- the trees of nodes, each from the trees before it
abbrev pub trees_in : {L U B M : Type 0} → List (Tree L U B M) → List (Node L U B M) → List (Tree L U B M)
trees_in done [] = done
trees_in done (n ∷ ns) = trees_in (done ++ tree_of done n ∷ []) ns

abbrev pub trees : {L U B M : Type 0} → List (Node L U B M) → List (Tree L U B M)
trees ns = trees_in [] ns

-- each child is before this index
abbrev pub IsBelow : {L U B M : Type 0} → ℕ → Node L U B M → Type 0
IsBelow i (Leaf l) = Unit {0}
IsBelow i (Unary u a) = a < i
IsBelow i (Binary o a b) = (a < i) × (b < i)
IsBelow i (If c a b) = (c < i) × (a < i) × (b < i)
IsBelow i (Many m xs) = All (λ x. x < i) xs

-- each node is after its children
abbrev pub AreBelow : {L U B M : Type 0} → List (Node L U B M) → Type 0
AreBelow ns = (i : ℕ) (d : Node _ _ _ _) → i < length ns → IsBelow i (slice_index_or ns i d)

-- the list is extended at its end, or equal
abbrev pub Grows : {A : Type 0} → List A → List A → Type 0
Grows {A} old new = (more : List A) × (new ≡ old ++ more)

-- each tree keeps its index and its value
pub record Stays {L U B M : Type 0} (old new : List (Node L U B M)) : Type 0 where
  pub same : (i : ℕ) → i < length old → at (trees new) i ≡ at (trees old) i
