-- The nodes of code are those of its arena. How code grows, and how many nodes the result of a pass has.
use Rattle.std.specs.Prelude.{◌≡◌, ℕ, ◌+◌, ◌-◌, ◌<◌, ◌≤◌, List, [], ◌∷◌, length, slice_index_or}
use Rattle.program.specs.declared.arena.Node.{Node}
use Rattle.program.specs.declared.arena.Node.TheVariants.{Leaf, Unary, Binary, If, Many}
use Rattle.program.specs.Trees.{at, trees}
use Rattle.code_tree.specs.declared.code.At.{At}
use Rattle.code_tree.specs.declared.code.CodeUnary.{CodeUnary}
use Rattle.code_tree.specs.declared.code.CodeUnary.TheVariants.{Passes, Leaves, Catches}
use Rattle.code_tree.specs.declared.code.CodeMany.{CodeMany}
use Rattle.code_tree.specs.declared.code.CodeMany.TheVariants.{Joins, Does}
use Rattle.code_tree.specs.Codes.{Code}
use Rattle.code_tree.specs.Passes.{Pass, behind, applied}

abbrev pub CodeNodes : Type 0 → Type 0 → Type 0
CodeNodes O H = List (Node (At O) CodeUnary H (CodeMany O))

-- k nodes are added, and what stood stands
pub record Grown {O H : Type 0} (k : ℕ) (old new : CodeNodes O H) : Type 0 where
  pub count : length new ≡ length old + k
  pub same : (i : ℕ) → i < length old → at (trees new) i ≡ at (trees old) i

-- while operations are added one behind another: those that are left lead from the tree at this index to the same tree
pub record AddsBehind {O H : Type 0} (n : ℕ) (old now : CodeNodes O H) (ops left : List O) (part index : ℕ) : Type 0 where
  pub count : length now + length left ≡ length old + length ops
  pub longer : length old ≤ length now
  pub same : (i : ℕ) → i < length old → at (trees now) i ≡ at (trees old) i
  pub below : index < length now
  pub last : part + 1 ≡ length old → index + 1 ≡ length now
  pub tree : behind n left (at (trees now) index) ≡ behind n ops (at (trees old) part)

-- the whole is the last tree
abbrev pub whole : {O H : Type 0} → CodeNodes O H → Code O H
whole ns = at (trees ns) (length ns - 1)

-- ---- how many nodes a pass makes

-- of some operations one behind another; of none, one that joins
abbrev pub chain_nodes : {Q : Type 0} → List Q → ℕ
chain_nodes [] = 1
chain_nodes (o ∷ os) = 1 + length os

module _ {O H Q K : Type 0} (pass : Pass O H Q K) where
  abbrev pub unary_nodes : CodeUnary → ℕ
  unary_nodes (Passes n way) = length (pass.way n way) + 1
  unary_nodes (Leaves j) = 1
  unary_nodes (Catches j) = 1

  abbrev pub many_nodes : CodeMany O → ℕ
  many_nodes Joins = 1
  many_nodes (Does at) = chain_nodes (pass.op at.point at.op)

  abbrev pub nodes_of_node : Node (At O) CodeUnary H (CodeMany O) → ℕ
  nodes_of_node (Leaf at) = chain_nodes (pass.op at.point at.op)
  nodes_of_node (Unary u a) = unary_nodes u
  nodes_of_node (Binary h c a) = 1
  nodes_of_node (If c a b) = 1
  nodes_of_node (Many m xs) = many_nodes m

  abbrev pub nodes_made : CodeNodes O H → ℕ
  nodes_made [] = 0
  nodes_made (n ∷ ns) = nodes_of_node n + nodes_made ns

  -- the index in the result of what each of the first nodes became
  pub record AreMade (source : CodeNodes O H) (result : CodeNodes Q K) (places : List ℕ) : Type 0 where
    pub each : (i : ℕ) → i < length places → at (trees result) (slice_index_or places i 0) ≡ applied pass (at (trees source) i)
