-- The extension of a body by a tree: its nodes, their spans, the names bound in it, and its loops with spec blocks.
use Rattle.std.specs.Prelude.{◌≡◌, ℕ, ◌+◌, List, [], ◌∷◌, ◌++◌, length, Option, Some}
use Rattle.base.specs.declared.span.Span.{Span}
use Rattle.program.specs.declared.arena.Node.{Node}
use Rattle.program.specs.declared.arena.Node.TheVariants.{Many}
use Rattle.program.specs.declared.code.CodeLeaf.{CodeLeaf}
use Rattle.program.specs.declared.code.CodeUnary.{CodeUnary}
use Rattle.program.specs.declared.code.CodeBinary.{CodeBinary}
use Rattle.program.specs.declared.code.CodeMany.{CodeMany}
use Rattle.program.specs.Listed.{IsSound, AreSound, inner_all, before, indices, nodes_from, nodes_from_all}
use Rattle.body_names.specs.declared.code.building.Building.{Building}
use Rattle.body_names.specs.declared.code.loops.LoopScope.{LoopScope}
use Rattle.body_names.specs.CodeForms.{CodeTree, CodeTrees}

abbrev pub CodeNode : Type 0
CodeNode = Node CodeLeaf CodeUnary CodeBinary CodeMany

-- one node is added
pub record Stepped (node : CodeNode) (span : Span) (old new : Building) (index : ℕ) : Type 0 where
  pub index_is : index ≡ length old.body.nodes
  pub nodes : new.body.nodes ≡ old.body.nodes ++ node ∷ []
  pub spans : new.body.spans ≡ old.body.spans ++ span ∷ []
  pub locals : new.locals ≡ old.locals
  pub loops : new.loops.items ≡ old.loops.items
  pub scope : new.scope ≡ old.scope

-- the nodes of a sound tree are added; the root has this index
pub record Added (tree : CodeTree) (spans : List Span) (names : List (List ℕ)) (loops : List LoopScope) (old new : Building) (index : ℕ) : Type 0 where
  pub sound : IsSound tree
  pub index_is : index ≡ length old.body.nodes + before tree
  pub last : length new.body.nodes ≡ index + 1
  pub nodes : new.body.nodes ≡ old.body.nodes ++ nodes_from (length old.body.nodes) tree
  pub spans_are : new.body.spans ≡ old.body.spans ++ spans
  pub locals : new.locals ≡ old.locals ++ names
  pub loops_are : new.loops.items ≡ old.loops.items ++ loops

-- the nodes of sound trees are added, one tree after another; these are the indices of the roots
pub record AddedAll (trees : CodeTrees) (spans : List Span) (names : List (List ℕ)) (loops : List LoopScope) (old new : Building) (parts : List ℕ) : Type 0 where
  pub sound : AreSound trees
  pub parts_are : parts ≡ indices (length old.body.nodes) trees
  pub count : length new.body.nodes ≡ length old.body.nodes + length (inner_all trees)
  pub nodes : new.body.nodes ≡ old.body.nodes ++ nodes_from_all (length old.body.nodes) trees
  pub spans_are : new.body.spans ≡ old.body.spans ++ spans
  pub locals : new.locals ≡ old.locals ++ names
  pub loops_are : new.loops.items ≡ old.loops.items ++ loops

-- the node with this meaning is added after its children
pub record Closed (meaning : Option CodeMany) (parts : List ℕ) (span : Span) (old new : Building) (index : ℕ) : Type 0 where
  pub node : CodeMany
  pub node_is : meaning ≡ Some node
  pub step : Stepped (Many node parts) span old new index

-- a node is added after its children, unless there is just one child
abbrev pub IsParenthesized : CodeMany → List ℕ → Span → Building → Building → ℕ → Type 0
IsParenthesized m [] span old new index = Stepped (Many m []) span old new index
IsParenthesized m (p ∷ []) span old new index = (index ≡ p) × (new ≡ old)
IsParenthesized m (p ∷ q ∷ ps) span old new index = Stepped (Many m (p ∷ q ∷ ps)) span old new index
