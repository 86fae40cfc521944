-- The extension of spec expressions by a tree: its nodes, their spans, and the variables bound in it.
use Rattle.std.specs.Prelude.{◌≡◌, ℕ, ◌+◌, List, [], ◌∷◌, ◌++◌, length}
use Rattle.base.specs.declared.span.Span.{Span}
use Rattle.program.specs.declared.arena.Node.{Node}
use Rattle.program.specs.declared.spec.SpecLeaf.{SpecLeaf}
use Rattle.program.specs.declared.spec.SpecUnary.{SpecUnary}
use Rattle.program.specs.declared.spec.SpecBinary.{SpecBinary}
use Rattle.program.specs.declared.spec.SpecMany.{SpecMany}
use Rattle.program.specs.Listed.{IsSound, AreSound, inner_all, before, indices, nodes_from, nodes_from_all}
use Rattle.body_names.specs.declared.spec.building.Building.{Building}
use Rattle.body_names.specs.SpecForms.{SpecTree, SpecTrees}

abbrev pub SpecNode : Type 0
SpecNode = Node SpecLeaf SpecUnary SpecBinary SpecMany

-- one node is added
pub record Stepped (node : SpecNode) (span : Span) (old new : Building) (index : ℕ) : Type 0 where
  pub index_is : index ≡ length old.body.nodes
  pub nodes : new.body.nodes ≡ old.body.nodes ++ node ∷ []
  pub spans : new.body.spans ≡ old.body.spans ++ span ∷ []
  pub variables : new.variables ≡ old.variables
  pub scope : new.scope ≡ old.scope

-- the nodes of a sound tree are added; the root has this index
pub record Added (tree : SpecTree) (spans : List Span) (names : List (List ℕ)) (old new : Building) (index : ℕ) : Type 0 where
  pub sound : IsSound tree
  pub index_is : index ≡ length old.body.nodes + before tree
  pub last : length new.body.nodes ≡ index + 1
  pub nodes : new.body.nodes ≡ old.body.nodes ++ nodes_from (length old.body.nodes) tree
  pub spans_are : new.body.spans ≡ old.body.spans ++ spans
  pub variables : new.variables ≡ old.variables ++ names

-- the nodes of sound trees are added, one tree after another, and the indices of the roots are appended to others
pub record AddedAll (trees : SpecTrees) (spans : List Span) (names : List (List ℕ)) (old new : Building) (parts more : List ℕ) : Type 0 where
  pub sound : AreSound trees
  pub parts_are : more ≡ parts ++ indices (length old.body.nodes) trees
  pub count : length new.body.nodes ≡ length old.body.nodes + length (inner_all trees)
  pub nodes : new.body.nodes ≡ old.body.nodes ++ nodes_from_all (length old.body.nodes) trees
  pub spans_are : new.body.spans ≡ old.body.spans ++ spans
  pub variables : new.variables ≡ old.variables ++ names
