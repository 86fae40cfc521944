-- The body of a function, and the value of a constant, with their names resolved. A function's parameters are its first
-- locals. Each tree is sound exactly if each use in the code has a meaning. Source: The Move Book, "Functions" and
-- "Constants".
use Rattle.std.specs.Prelude.{◌≡◌, ℕ, List, [], length}
use Rattle.base.specs.declared.span.Span.{Span}
use Rattle.syntax_tree.specs.ExpressionData.{ExpressionData, BlockData}
use Rattle.program.specs.Listed.{IsSound, nodes_of}
use Rattle.scopes.specs.TypeMeanings.{TypeScope}
use Rattle.body_names.specs.declared.code.body.ResolvedBody.{ResolvedBody}
use Rattle.body_names.specs.CodeForms.{CodeTree}
use Rattle.body_names.specs.CodeNames.{numbered}
use Rattle.body_names.specs.CodeTrees.{block_tree, code_tree}

-- the tree of the body of a function with parameters of these names
abbrev pub body_tree : TypeScope → List (List ℕ) → BlockData → CodeTree
body_tree w parameters block = block_tree w (numbered 0 parameters) (length parameters) block

abbrev pub constant_tree : TypeScope → ExpressionData → CodeTree
constant_tree w value = code_tree w [] 0 value

-- the nodes are those of the tree, which is sound, with these spans; and these are the names of the locals, by number
pub record IsResolved (tree : CodeTree) (spans : List Span) (locals : List (List ℕ)) (resolved : ResolvedBody) : Type 0 where
  pub sound : IsSound tree
  pub nodes : resolved.body.nodes ≡ nodes_of tree
  pub spans_are : resolved.body.spans ≡ spans
  pub locals_are : resolved.locals ≡ locals
