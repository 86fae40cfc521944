-- Which loop a `break` or `continue` belongs to: the innermost loop whose body it occurs in. The condition of a `while`
-- belongs to the loop outside. Source: The Move Book, "While, For, and Loop".
use Rattle.std.specs.Prelude.{ℕ, ◌+◌, Bool, true, false, ◌&&◌, ◌||◌, ltb, List, length, Option, Some, None}
use Rattle.std.specs.List.{list_any}
use Rattle.program.specs.Trees.{Tree, LeafTree, UnaryTree, BinaryTree, IfTree, ManyTree, BadTree, Trees, NoTrees, MoreTrees, at, trees}
use Rattle.program.specs.Listed.{subtrees}
use Rattle.program.specs.declared.arena.Node.TheVariants.{Unary, Binary}
use Rattle.program.specs.declared.code.CodeLeaf.{CodeLeaf}
use Rattle.program.specs.declared.code.CodeLeaf.TheVariants.{Break}
use Rattle.program.specs.declared.code.CodeUnary.{CodeUnary}
use Rattle.program.specs.declared.code.CodeUnary.TheVariants.{Loop}
use Rattle.program.specs.declared.code.CodeBinary.{CodeBinary}
use Rattle.program.specs.declared.code.CodeBinary.TheVariants.{While}
use Rattle.program.specs.declared.code.CodeMany.{CodeMany}
use Rattle.program.specs.CodeNodes.{CodeNode}

abbrev pub CodeTree : Type 0
CodeTree = Tree CodeLeaf CodeUnary CodeBinary CodeMany

-- the tree has a `break` that belongs to a loop outside it
abbrev mutual
  pub has_break : CodeTree → Bool
  has_break (LeafTree Break) = true
  has_break (LeafTree _) = false
  has_break (UnaryTree Loop a) = false
  has_break (UnaryTree _ a) = has_break a
  has_break (BinaryTree While a b) = has_break a
  has_break (BinaryTree _ a b) = has_break a || has_break b
  has_break (IfTree c a b) = has_break c || (has_break a || has_break b)
  has_break (ManyTree m ts) = have_break ts
  has_break BadTree = false

  pub have_break : Trees CodeLeaf CodeUnary CodeBinary CodeMany → Bool
  have_break NoTrees = false
  have_break (MoreTrees t ts) = has_break t || have_break ts

-- the node with the number n is one of those of the tree whose root is the node with the number b: the nodes of a tree
-- have consecutive numbers, and its root comes last
abbrev pub stands_in : List CodeNode → ℕ → ℕ → Bool
stands_in nodes b n = ltb n (b + 1) && ltb b (n + length (subtrees (at (trees nodes) b)))

-- the body of a node that is a loop
abbrev pub loop_body : CodeNode → Option ℕ
loop_body (Unary Loop body) = Some body
loop_body (Binary While condition body) = Some body
loop_body _ = None

abbrev pub stands_in_body : List CodeNode → ℕ → Option ℕ → Bool
stands_in_body nodes n None = false
stands_in_body nodes n (Some body) = stands_in nodes body n

-- the node with this number is in the body of a loop
abbrev pub is_in_loop : List CodeNode → ℕ → Bool
is_in_loop nodes n = list_any (λ node. stands_in_body nodes n (loop_body node)) nodes
