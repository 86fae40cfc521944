-- The spans of paths, types and expressions: that of the first token that spells them.
use Rattle.std.specs.Prelude.{List, [], ◌∷◌, Option, None}
use Rattle.base.specs.declared.span.Span.{Span}
use Rattle.syntax_tree.specs.declared.lexeme.Lexeme.{Lexeme}
use Rattle.syntax_tree.specs.declared.literal.Literal.{Literal}
use Rattle.syntax_tree.specs.declared.literal.Literal.TheVariants.{Number, Truth, Address as address_literal}
use Rattle.syntax_tree.specs.declared.path.Address.{Address}
use Rattle.syntax_tree.specs.declared.path.Address.TheVariants.{Number as number_address, Name as name_address}
use Rattle.syntax_tree.specs.declared.path.Path.{Path}
use Rattle.syntax_tree.specs.declared.path.Path.TheVariants.{Name as name_path, Member as member_path, Full as full_path}
use Rattle.syntax_tree.specs.TypeTreeData.{SourceTypeData, SharedSourceType, MutableSourceType, NamedSourceType, TupleSourceType}
use Rattle.syntax_tree.specs.ExpressionData.{ExpressionData, BinaryExpression, AssignExpression, IfExpression, WhileExpression, LoopExpression, ReturnExpression, AbortExpression, BreakExpression, ContinueExpression, UnaryExpression, UseExpression, FieldExpression, LiteralExpression, PathExpression, CallExpression, PackExpression, VectorExpression, AssertExpression, TupleExpression, CastExpression, BlockExpression, BlockData, BlockOf}
use Rattle.syntax_tree.specs.SpecExpressionData.{SpecExpressionData, SpecBinary, SpecQuantified, SpecIf, SpecNot, SpecField, SpecIndex, SpecLiteral, SpecPath, SpecCall, SpecPack, SpecParenthesized}

-- the span that the first lexeme keeps
abbrev pub first_token_span : List Lexeme → Option Span
first_token_span [] = None
first_token_span (l ∷ ls) = l.span

abbrev pub address_span : Address → Span
address_span (number_address n) = n.span
address_span (name_address n) = n.span

abbrev pub path_span : Path → Span
path_span (name_path name) = name.span
path_span (member_path owner name) = owner.span
path_span (full_path owner name) = address_span owner.address

abbrev pub literal_span : Literal → Span
literal_span (Number n) = n.span
literal_span (Truth span value) = span
literal_span (address_literal span address) = span

abbrev pub type_span : SourceTypeData → Span
type_span (SharedSourceType span target) = span
type_span (MutableSourceType span target) = span
type_span (NamedSourceType path types) = path_span path
type_span (TupleSourceType span items last) = span

abbrev pub block_span : BlockData → Span
block_span (BlockOf span spec items value) = span

abbrev pub expression_span : ExpressionData → Span
expression_span (BinaryExpression left operator span right) = expression_span left
expression_span (AssignExpression target span value) = expression_span target
expression_span (IfExpression span condition then_branch else_branch) = span
expression_span (WhileExpression span condition body) = span
expression_span (LoopExpression span body) = span
expression_span (ReturnExpression span value) = span
expression_span (AbortExpression span code) = span
expression_span (BreakExpression span) = span
expression_span (ContinueExpression span) = span
expression_span (UnaryExpression operator span operand) = span
expression_span (UseExpression kind span local) = span
expression_span (FieldExpression base field) = expression_span base
expression_span (LiteralExpression literal) = literal_span literal
expression_span (PathExpression path) = path_span path
expression_span (CallExpression function types values last) = path_span function
expression_span (PackExpression path types fields last) = path_span path
expression_span (VectorExpression span types items last) = span
expression_span (AssertExpression span condition code) = span
expression_span (TupleExpression span items last) = span
expression_span (CastExpression span value target) = span
expression_span (BlockExpression block) = block_span block

abbrev pub spec_expression_span : SpecExpressionData → Span
spec_expression_span (SpecBinary left operator span right) = spec_expression_span left
spec_expression_span (SpecQuantified quantifier span binds found body) = span
spec_expression_span (SpecIf span condition then_branch else_branch) = span
spec_expression_span (SpecNot span operand) = span
spec_expression_span (SpecField base field) = spec_expression_span base
spec_expression_span (SpecIndex base index) = spec_expression_span base
spec_expression_span (SpecLiteral literal) = literal_span literal
spec_expression_span (SpecPath path) = path_span path
spec_expression_span (SpecCall function types values last) = path_span function
spec_expression_span (SpecPack path types fields last) = path_span path
spec_expression_span (SpecParenthesized span inner) = span
