-- The span of a tree is that of the first token that spells it.
use Rattle.std.proofs.Common.{◌≡◌, true, false, List, [], ◌∷◌, ◌++◌, Some, refl}
use Rattle.base.specs.declared.span.Span.{Span}
use Rattle.tokens.specs.declared.token.Punctuation.TheVariants.{LeftParenthesis, RightParenthesis, LeftBracket, RightBracket, LeftBrace, RightBrace, Colon, Period, Equal}
use Rattle.syntax_tree.specs.declared.lexeme.Lexeme.{Lexeme}
use Rattle.syntax_tree.specs.declared.lexeme.Identifier.{Identifier}
use Rattle.syntax_tree.specs.declared.literal.Literal.{Literal}
use Rattle.syntax_tree.specs.declared.literal.Literal.TheVariants.{Number, Truth, Address as address_literal}
use Rattle.syntax_tree.specs.declared.operator.UnaryOperator.{UnaryOperator}
use Rattle.syntax_tree.specs.declared.operator.UnaryOperator.TheVariants.{Not, Dereference, Borrow, BorrowMutable}
use Rattle.syntax_tree.specs.declared.operator.UseKind.TheVariants.{Move, Copy}
use Rattle.syntax_tree.specs.declared.path.Address.{Address}
use Rattle.syntax_tree.specs.declared.path.Address.TheVariants.{Number as number_address, Name as name_address}
use Rattle.syntax_tree.specs.declared.path.Path.{Path}
use Rattle.syntax_tree.specs.declared.path.Path.TheVariants.{Name as name_path, Member as member_path, Full as full_path}
use Rattle.syntax_tree.specs.Lexemes.{sign, sign_at, identifier, comma_list}
use Rattle.syntax_tree.specs.PathSpelling.{address_spelling, path_spelling}
use Rattle.syntax_tree.specs.LiteralSpelling.{literal_spelling}
use Rattle.syntax_tree.specs.OperatorSpelling.{operator_spelling}
use Rattle.syntax_tree.specs.TypeTreeData.{SourceTypeData, SharedSourceType, MutableSourceType, NamedSourceType, TupleSourceType}
use Rattle.syntax_tree.specs.TypeSpelling.{type_spelling, maybe_arguments_spelling}
use Rattle.syntax_tree.specs.ExpressionData.{ExpressionData, BinaryExpression, AssignExpression, IfExpression, WhileExpression, LoopExpression, ReturnExpression, AbortExpression, BreakExpression, ContinueExpression, UnaryExpression, UseExpression, FieldExpression, LiteralExpression, PathExpression, CallExpression, PackExpression, VectorExpression, AssertExpression, TupleExpression, CastExpression, BlockExpression, BlockOf}
use Rattle.syntax_tree.specs.ExpressionSpelling.{ends_in_path, expression_spelling, expression_spellings, field_value_spellings}
use Rattle.syntax_tree.specs.declared.spec_expression.operator.Quantifier.TheVariants.{ForAll, Exists}
use Rattle.syntax_tree.specs.SpecExpressionData.{SpecExpressionData, SpecBinary, SpecQuantified, SpecIf, SpecNot, SpecField, SpecIndex, SpecLiteral, SpecPath, SpecCall, SpecPack, SpecParenthesized}
use Rattle.syntax_tree.specs.SpecOperatorSpelling.{spec_operator_spelling}
use Rattle.syntax_tree.specs.SpecExpressionSpelling.{spec_spelling, spec_spellings, spec_field_spellings, ends_in_path as spec_ends_in_path}
use Rattle.syntax_tree.specs.TreeSpans.{first_token_span, path_span, literal_span, type_span, expression_span, spec_expression_span}

-- the lexemes after the first do not matter
behind : (ls ms : List Lexeme) (span : Span) → first_token_span ls ≡ Some span → first_token_span (ls ++ ms) ≡ Some span
behind [] ms span e = absurd (cc)
behind (l ∷ ls) ms span e = e

pub path_first : (path : Path) → first_token_span (path_spelling path) ≡ Some (path_span path)
path_first (name_path name) = refl
path_first (member_path owner name) = refl
path_first (full_path owner name) = of_address owner.address owner.name name
  where
    of_address : (a : Address) (m n : Identifier) → first_token_span (path_spelling (full_path (record { address = a; name = m }) n)) ≡ Some (path_span (full_path (record { address = a; name = m }) n))
    of_address (number_address a) m n = refl
    of_address (name_address a) m n = refl

literal_first : (l : Literal) → first_token_span (literal_spelling l) ≡ Some (literal_span l)
literal_first (Number n) = refl
literal_first (Truth span true) = refl
literal_first (Truth span false) = refl
literal_first (address_literal span address) = refl

pub type_first : (t : SourceTypeData) → first_token_span (type_spelling t) ≡ Some (type_span t)
type_first (SharedSourceType span target) = refl
type_first (MutableSourceType span target) = refl
type_first (NamedSourceType path types) = behind (path_spelling path) _ (path_span path) (path_first path)
type_first (TupleSourceType span items last) = refl

pub expression_first : (e : ExpressionData) → first_token_span (expression_spelling e) ≡ Some (expression_span e)
expression_first (BinaryExpression left operator span right) =
    behind (expression_spelling left ++ operator_spelling operator span (ends_in_path left)) (expression_spelling right) _ (behind (expression_spelling left) (operator_spelling operator span (ends_in_path left)) _ (expression_first left))
expression_first (AssignExpression target span value) = behind (expression_spelling target) (sign_at span Equal ∷ expression_spelling value) _ (expression_first target)
expression_first (IfExpression span condition then_branch else_branch) = refl
expression_first (WhileExpression span condition body) = refl
expression_first (LoopExpression span body) = refl
expression_first (ReturnExpression span value) = refl
expression_first (AbortExpression span code) = refl
expression_first (BreakExpression span) = refl
expression_first (ContinueExpression span) = refl
expression_first (UnaryExpression Not span operand) = refl
expression_first (UnaryExpression Dereference span operand) = refl
expression_first (UnaryExpression Borrow span operand) = refl
expression_first (UnaryExpression BorrowMutable span operand) = refl
expression_first (UseExpression Move span local) = refl
expression_first (UseExpression Copy span local) = refl
expression_first (FieldExpression base field) = behind (expression_spelling base) (sign Period ∷ identifier field ∷ []) _ (expression_first base)
expression_first (LiteralExpression literal) = literal_first literal
expression_first (PathExpression path) = path_first path
expression_first (CallExpression function types values last) =
    behind ((path_spelling function ++ maybe_arguments_spelling (Some true) types) ++ sign LeftParenthesis ∷ comma_list (expression_spellings values) last) (sign RightParenthesis ∷ []) _
    (behind (path_spelling function ++ maybe_arguments_spelling (Some true) types) (sign LeftParenthesis ∷ comma_list (expression_spellings values) last) _ (behind (path_spelling function) (maybe_arguments_spelling (Some true) types) _ (path_first function)))
expression_first (PackExpression path types fields last) =
    behind ((path_spelling path ++ maybe_arguments_spelling (Some true) types) ++ sign LeftBrace ∷ comma_list (field_value_spellings fields) last) (sign RightBrace ∷ []) _
    (behind (path_spelling path ++ maybe_arguments_spelling (Some true) types) (sign LeftBrace ∷ comma_list (field_value_spellings fields) last) _ (behind (path_spelling path) (maybe_arguments_spelling (Some true) types) _ (path_first path)))
expression_first (VectorExpression span types items last) = refl
expression_first (AssertExpression span condition code) = refl
expression_first (TupleExpression span items last) = refl
expression_first (CastExpression span value target) = refl
expression_first (BlockExpression (BlockOf span spec items value)) = refl

pub spec_first : (e : SpecExpressionData) → first_token_span (spec_spelling e) ≡ Some (spec_expression_span e)
spec_first (SpecBinary left operator span right) =
    behind (spec_spelling left ++ spec_operator_spelling operator span (spec_ends_in_path left)) (spec_spelling right) _ (behind (spec_spelling left) (spec_operator_spelling operator span (spec_ends_in_path left)) _ (spec_first left))
spec_first (SpecQuantified ForAll span binds found body) = refl
spec_first (SpecQuantified Exists span binds found body) = refl
spec_first (SpecIf span condition then_branch else_branch) = refl
spec_first (SpecNot span operand) = refl
spec_first (SpecField base field) = behind (spec_spelling base) (sign Period ∷ identifier field ∷ []) _ (spec_first base)
spec_first (SpecIndex base index) =
    behind (spec_spelling base ++ sign LeftBracket ∷ spec_spelling index) (sign RightBracket ∷ []) _ (behind (spec_spelling base) (sign LeftBracket ∷ spec_spelling index) _ (spec_first base))
spec_first (SpecLiteral literal) = literal_first literal
spec_first (SpecPath path) = path_first path
spec_first (SpecCall function types values last) =
    behind ((path_spelling function ++ maybe_arguments_spelling (Some true) types) ++ sign LeftParenthesis ∷ comma_list (spec_spellings values) last) (sign RightParenthesis ∷ []) _
    (behind (path_spelling function ++ maybe_arguments_spelling (Some true) types) (sign LeftParenthesis ∷ comma_list (spec_spellings values) last) _ (behind (path_spelling function) (maybe_arguments_spelling (Some true) types) _ (path_first function)))
spec_first (SpecPack path types fields last) =
    behind ((path_spelling path ++ maybe_arguments_spelling (Some true) types) ++ sign LeftBrace ∷ comma_list (spec_field_spellings fields) last) (sign RightBrace ∷ []) _
    (behind (path_spelling path ++ maybe_arguments_spelling (Some true) types) (sign LeftBrace ∷ comma_list (spec_field_spellings fields) last) _ (behind (path_spelling path) (maybe_arguments_spelling (Some true) types) _ (path_first path)))
spec_first (SpecParenthesized span inner) = refl
