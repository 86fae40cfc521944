-- Spec expressions with their names resolved. Source: the Move Specification Language reference, "Expressions".
use Rattle.std.specs.Prelude.{◌≡◌, ℕ, List, [], length}
use Rattle.base.specs.declared.span.Span.{Span}
use Rattle.syntax_tree.specs.SpecExpressionData.{SpecExpressionData, SpecExpressionsData, SpecFieldsData}
use Rattle.program.specs.Listed.{IsSound, AreSound, before, nodes_of, nodes_from_all, indices}
use Rattle.body_names.specs.declared.spec.expression.ResolvedSpec.{ResolvedSpec}
use Rattle.body_names.specs.declared.spec.expression.ResolvedSpecs.{ResolvedSpecs}
use Rattle.body_names.specs.SpecForms.{SpecScope, SpecTree, SpecTrees}
use Rattle.body_names.specs.SpecNames.{variables_of_fields}
use Rattle.body_names.specs.SpecTrees.{field_trees, spec_tree, spec_trees}
use Rattle.body_names.specs.Joined.{joined}

-- the tree of a single expression: sound exactly if each use in it has a meaning
abbrev pub expression_tree : SpecScope → SpecExpressionData → SpecTree
expression_tree w e = spec_tree w [] 0 e

-- the trees of consecutive expressions, whose variables are numbered consecutively
abbrev pub expression_trees : SpecScope → SpecExpressionsData → SpecTrees
expression_trees w es = spec_trees w [] 0 es

-- the trees of the values of bindings, and after them of implied values
abbrev pub binding_trees : SpecScope → SpecFieldsData → SpecFieldsData → SpecTrees
binding_trees w given implied = joined (field_trees w [] 0 given) (field_trees w [] (length (variables_of_fields given)) implied)

-- the nodes are those of the tree, which is sound, with these spans; the last node is the root; and these are the names
-- of the quantifier variables, by number
pub record IsResolved (tree : SpecTree) (spans : List Span) (variables : List (List ℕ)) (resolved : ResolvedSpec) : Type 0 where
  pub sound : IsSound tree
  pub nodes : resolved.body.nodes ≡ nodes_of tree
  pub index_is : resolved.index ≡ before tree
  pub spans_are : resolved.body.spans ≡ spans
  pub variables_are : resolved.variables ≡ variables

-- the same for several expressions, with the index of the root of each
pub record AreResolved (trees : SpecTrees) (spans : List Span) (variables : List (List ℕ)) (resolved : ResolvedSpecs) : Type 0 where
  pub sound : AreSound trees
  pub nodes : resolved.body.nodes ≡ nodes_from_all 0 trees
  pub indices_are : resolved.indices ≡ indices 0 trees
  pub spans_are : resolved.body.spans ≡ spans
  pub variables_are : resolved.variables ≡ variables
