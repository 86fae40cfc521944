-- The list of nodes of a tree: each child before its parent, the children in order, and nothing else.
use Rattle.std.specs.Prelude.{ℕ, ◌+◌, List, [], ◌∷◌, ◌++◌, length}
use Rattle.program.specs.declared.arena.Node.{Node}
use Rattle.program.specs.declared.arena.Node.TheVariants.{Leaf, Unary, Binary, If, Many}
use Rattle.program.specs.Trees.{Tree, LeafTree, UnaryTree, BinaryTree, IfTree, ManyTree, BadTree, Trees, NoTrees, MoreTrees}

-- no subtree is missing
abbrev mutual
  pub IsSound : {L U B M : Type 0} → Tree L U B M → Type 0
  IsSound (LeafTree l) = Unit {0}
  IsSound (UnaryTree u a) = IsSound a
  IsSound (BinaryTree o a b) = IsSound a × IsSound b
  IsSound (IfTree c a b) = IsSound c × IsSound a × IsSound b
  IsSound (ManyTree m ts) = AreSound ts
  IsSound BadTree = ⊥

  pub AreSound : {L U B M : Type 0} → Trees L U B M → Type 0
  AreSound NoTrees = Unit {0}
  AreSound (MoreTrees t ts) = IsSound t × AreSound ts

-- the proper subtrees of a tree, each after its own
abbrev mutual
  pub inner : {L U B M : Type 0} → Tree L U B M → List (Tree L U B M)
  inner (LeafTree l) = []
  inner (UnaryTree u a) = inner a ++ a ∷ []
  inner (BinaryTree o a b) = (inner a ++ a ∷ []) ++ (inner b ++ b ∷ [])
  inner (IfTree c a b) = ((inner c ++ c ∷ []) ++ (inner a ++ a ∷ [])) ++ (inner b ++ b ∷ [])
  inner (ManyTree m ts) = inner_all ts
  inner BadTree = []

  pub inner_all : {L U B M : Type 0} → Trees L U B M → List (Tree L U B M)
  inner_all NoTrees = []
  inner_all (MoreTrees t ts) = (inner t ++ t ∷ []) ++ inner_all ts

-- the proper subtrees of a tree, and then the tree itself
abbrev pub subtrees : {L U B M : Type 0} → Tree L U B M → List (Tree L U B M)
subtrees t = inner t ++ t ∷ []

-- how many nodes are before the root
abbrev pub before : {L U B M : Type 0} → Tree L U B M → ℕ
before t = length (inner t)

-- the indices of the roots of trees, whose nodes follow one another, from the index n on
abbrev pub indices : {L U B M : Type 0} → ℕ → Trees L U B M → List ℕ
indices n NoTrees = []
indices n (MoreTrees t ts) = (n + before t) ∷ indices (n + (before t + 1)) ts

-- the nodes of a tree, from the index n on
abbrev mutual
  pub nodes_from : {L U B M : Type 0} → ℕ → Tree L U B M → List (Node L U B M)
  nodes_from n (LeafTree l) = Leaf l ∷ []
  nodes_from n (UnaryTree u a) = nodes_from n a ++ Unary u (n + before a) ∷ []
  nodes_from n (BinaryTree o a b) =
      let m = n + (before a + 1) in
      (nodes_from n a ++ nodes_from m b) ++ Binary o (n + before a) (m + before b) ∷ []
  nodes_from n (IfTree c a b) =
      let m = n + (before c + 1) in
      let k = m + (before a + 1) in
      ((nodes_from n c ++ nodes_from m a) ++ nodes_from k b) ++ If (n + before c) (m + before a) (k + before b) ∷ []
  nodes_from n (ManyTree m ts) = nodes_from_all n ts ++ Many m (indices n ts) ∷ []
  nodes_from n BadTree = []

  pub nodes_from_all : {L U B M : Type 0} → ℕ → Trees L U B M → List (Node L U B M)
  nodes_from_all n NoTrees = []
  nodes_from_all n (MoreTrees t ts) = nodes_from n t ++ nodes_from_all (n + (before t + 1)) ts

-- the nodes of a tree
abbrev pub nodes_of : {L U B M : Type 0} → Tree L U B M → List (Node L U B M)
nodes_of t = nodes_from 0 t
