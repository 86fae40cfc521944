-- Each part of an expression, a block or an item is smaller than the whole.
use Rattle.std.specs.Prelude.{◌+◌, ◌≤◌, max, List, [], ◌∷◌, Option, Some, None}
use Rattle.std.proofs.Common.{arith}
use denote.Param.Weighed.{most}
use Rattle.syntax_tree.specs.declared.lexeme.Identifier.{Identifier}
use Rattle.syntax_tree.specs.ExpressionData.{ExpressionData, ItemData, FieldValueData, BlockOf, expression_size, block_size, item_size, field_value_size, expressions_size, items_size, field_values_size, expressions_of, items_of, field_values_of, maybe_expression_of}
use Rattle.syntax_tree.specs.ExpressionView.{expression_of_node, item_of_node, field_value_of}
use Rattle.syntax_tree.specs.declared.expression.ExpressionNode.{ExpressionNode}
use Rattle.syntax_tree.specs.declared.expression.ExpressionNode.TheVariants.{Binary, Assign, If, While, Loop, Return, Abort, Break, Continue, Unary, Use, Field, Literal, Path, Call, Pack, Vector, Assert, Tuple, Cast, Block}
use Rattle.syntax_tree.specs.declared.expression.ItemNode.{ItemNode}
use Rattle.syntax_tree.specs.declared.expression.ItemNode.TheVariants.{Expression, Let}
use Rattle.std.specs.Prelude.{Vec}
use Rattle.std.specs.Global.{Global}
use Rattle.base.specs.declared.span.Span.{Span}
use Rattle.syntax_tree.specs.declared.spec_tokens.KeptSpec.{KeptSpec}
use Rattle.syntax_tree.specs.declared.expression.Block.TheDeep.{deep-ExpressionNode, deep-ItemNode, deep-FieldValue, deep-Block}

-- no expression is larger than all of them together
pub expressions_fall : (xs : List ExpressionData) → max (most (λ x. expression_size x + 1) xs) 0 ≤ expressions_size (expressions_of xs)
expressions_fall [] = omega arith
expressions_fall (x ∷ xs) = omega (arith, expressions_fall xs)

pub items_fall : (xs : List ItemData) → max (most (λ x. item_size x + 1) xs) 0 ≤ items_size (items_of xs)
items_fall [] = omega arith
items_fall (x ∷ xs) = omega (arith, items_fall xs)

pub field_values_fall : (xs : List FieldValueData) → max (most (λ x. field_value_size x + 1) xs) 0 ≤ field_values_size (field_values_of xs)
field_values_fall [] = omega arith
field_values_fall (x ∷ xs) = omega (arith, field_values_fall xs)

pub expression_falls : (n : ExpressionNode) → max (deep-ExpressionNode n) 0 ≤ expression_size (expression_of_node n)
expression_falls (Binary left operator span right) = omega arith
expression_falls (Assign target span value) = omega arith
expression_falls (If span condition then_branch None) = omega arith
expression_falls (If span condition then_branch (Some else_branch)) = omega arith
expression_falls (While span condition body) = omega arith
expression_falls (Loop span body) = omega arith
expression_falls (Return span None) = omega arith
expression_falls (Return span (Some value)) = omega arith
expression_falls (Abort span code) = omega arith
expression_falls (Break span) = omega arith
expression_falls (Continue span) = omega arith
expression_falls (Unary operator span operand) = omega arith
expression_falls (Use kind span local) = omega arith
expression_falls (Field base field) = omega arith
expression_falls (Literal literal) = omega arith
expression_falls (Path path) = omega arith
expression_falls (Call function arguments values last) = omega (arith, expressions_fall values.items)
expression_falls (Pack path arguments fields last) = omega (arith, field_values_fall fields.items)
expression_falls (Vector span arguments items last) = omega (arith, expressions_fall items.items)
expression_falls (Assert span condition code) = omega arith
expression_falls (Tuple span items last) = omega (arith, expressions_fall items.items)
expression_falls (Cast span value target) = omega arith
expression_falls (Block block) = omega arith

pub item_falls : (n : ItemNode) → max (deep-ItemNode n) 0 ≤ item_size (item_of_node n)
item_falls (Expression expression) = omega arith
item_falls (Let span pattern annotation None) = omega arith
item_falls (Let span pattern annotation (Some value)) = omega arith

pub field_value_falls : (name : Identifier) (value : Option ExpressionData) → deep-FieldValue (record { name = name; value = value }) ≤ field_value_size (field_value_of name value)
field_value_falls name None = omega arith
field_value_falls name (Some value) = omega arith

pub block_falls : (span : Span) (spec : Option KeptSpec) (items : Vec ItemData Global) (value : Option ExpressionData) → deep-Block (record { span = span; spec = spec; items = items; value = value }) ≤ block_size (BlockOf span spec (items_of items.items) (maybe_expression_of value))
block_falls span spec items None = omega (arith, items_fall items.items)
block_falls span spec items (Some value) = omega (arith, items_fall items.items)
