-- One level of an expression and of an item, with its children as pure data.
use Rattle.std.specs.Prelude.{Box, Option, Some, None}
use Rattle.syntax_tree.specs.declared.lexeme.Identifier.{Identifier}
use Rattle.syntax_tree.specs.TypeTreeData.{maybe_arguments_of}
use Rattle.syntax_tree.specs.ExpressionData.{ExpressionData, BinaryExpression, AssignExpression, IfExpression, WhileExpression, LoopExpression, ReturnExpression, AbortExpression, BreakExpression, ContinueExpression, UnaryExpression, UseExpression, FieldExpression, LiteralExpression, PathExpression, CallExpression, PackExpression, VectorExpression, AssertExpression, TupleExpression, CastExpression, BlockExpression, ItemData, ExpressionItem, LetItem, FieldValueData, ShortFieldValue, LongFieldValue, maybe_expression_of, expressions_of, field_values_of}
use Rattle.syntax_tree.specs.declared.expression.ExpressionNode.{ExpressionNode}
use Rattle.syntax_tree.specs.declared.expression.ExpressionNode.TheVariants.{Binary, Assign, If, While, Loop, Return, Abort, Break, Continue, Unary, Use, Field, Literal, Path, Call, Pack, Vector, Assert, Tuple, Cast, Block}
use Rattle.syntax_tree.specs.declared.expression.ItemNode.{ItemNode}
use Rattle.syntax_tree.specs.declared.expression.ItemNode.TheVariants.{Expression, Let}

abbrev pub unboxed : {A Z : Type 0} → Option (Box A Z) → Option A
unboxed None = None
unboxed (Some b) = Some b.value

abbrev pub field_value_of : Identifier → Option ExpressionData → FieldValueData
field_value_of name None = ShortFieldValue name
field_value_of name (Some value) = LongFieldValue name value

abbrev pub expression_of_node : ExpressionNode → ExpressionData
expression_of_node (Binary left operator span right) = BinaryExpression left.value operator span right.value
expression_of_node (Assign target span value) = AssignExpression target.value span value.value
expression_of_node (If span condition then_branch else_branch) = IfExpression span condition.value then_branch.value (maybe_expression_of (unboxed else_branch))
expression_of_node (While span condition body) = WhileExpression span condition.value body.value
expression_of_node (Loop span body) = LoopExpression span body.value
expression_of_node (Return span value) = ReturnExpression span (maybe_expression_of (unboxed value))
expression_of_node (Abort span code) = AbortExpression span code.value
expression_of_node (Break span) = BreakExpression span
expression_of_node (Continue span) = ContinueExpression span
expression_of_node (Unary operator span operand) = UnaryExpression operator span operand.value
expression_of_node (Use kind span local) = UseExpression kind span local
expression_of_node (Field base field) = FieldExpression base.value field
expression_of_node (Literal literal) = LiteralExpression literal
expression_of_node (Path path) = PathExpression path
expression_of_node (Call function arguments values last) = CallExpression function (maybe_arguments_of arguments) (expressions_of values.items) last
expression_of_node (Pack path arguments fields last) = PackExpression path (maybe_arguments_of arguments) (field_values_of fields.items) last
expression_of_node (Vector span arguments items last) = VectorExpression span (maybe_arguments_of arguments) (expressions_of items.items) last
expression_of_node (Assert span condition code) = AssertExpression span condition.value code.value
expression_of_node (Tuple span items last) = TupleExpression span (expressions_of items.items) last
expression_of_node (Cast span value target) = CastExpression span value.value target
expression_of_node (Block block) = BlockExpression block.value

abbrev pub item_of_node : ItemNode → ItemData
item_of_node (Expression expression) = ExpressionItem expression.value
item_of_node (Let span pattern annotation value) = LetItem span pattern annotation (maybe_expression_of (unboxed value))
