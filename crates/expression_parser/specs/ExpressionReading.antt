-- The reader of expressions and blocks. `inner` reads the nested ones, with a nesting of one less.
use Rattle.std.specs.Prelude.{ℕ, zero, suc, Bool, true, false, ◌&&◌, ◌==◌, if◌then◌else◌, List, [], ◌∷◌, ◌++◌, Option, Some, None, is_some, option_and_then, codes, length}
use Rattle.std.specs.Option.{option_map, option_map_or}
use Rattle.base.specs.declared.span.Span.{Span}
use Rattle.tokens.specs.declared.token.Token.{Token}
use Rattle.tokens.specs.declared.token.Punctuation.TheVariants.{LeftParenthesis, RightParenthesis, LeftBrace, RightBrace, LeftBracket, RightBracket, Comma as comma_sign, Semicolon, Colon, Period, Equal, AtSign}
use Rattle.syntax_tree.specs.declared.literal.Literal.TheVariants.{Address as address_literal}
use Rattle.syntax_tree.specs.declared.path.Path.{Path}
use Rattle.syntax_tree.specs.TypeTreeData.{SourceTypeData, MaybeArgumentsData}
use Rattle.syntax_tree.specs.PatternData.{PatternData}
use Rattle.syntax_tree.specs.ExpressionData.{ExpressionData, AssignExpression, IfExpression, WhileExpression, LoopExpression, ReturnExpression, AbortExpression, BreakExpression, ContinueExpression, UnaryExpression, UseExpression, FieldExpression, LiteralExpression, PathExpression, CallExpression, PackExpression, VectorExpression, AssertExpression, TupleExpression, CastExpression, BlockExpression, NoExpression, SomeExpression, BlockData, BlockOf, ItemData, ExpressionItem, LetItem, FieldValueData, ShortFieldValue, LongFieldValue, expressions_of, field_values_of, items_of, maybe_expression_of}
use Rattle.syntax_tree.specs.ProperExpressions.{unary_level}
use Rattle.parser_base.specs.TokenReading.{Read, after_sign, sign_span_at, after_word, word_span_at, identifier_at}
use Rattle.parser_base.specs.ListReading.{comma_list_at}
use Rattle.parser_base.specs.ChainReading.{whole_chain_at}
use Rattle.parser_base.specs.PathReading.{path_at, address_at}
use Rattle.parser_base.specs.TypeReading.{type_at, maybe_arguments_at}
use Rattle.parser_base.specs.PatternReading.{pattern_at}
use Rattle.parser_base.specs.declared.leaf.Control.{Control}
use Rattle.parser_base.specs.declared.leaf.Control.TheVariants.{If, While, Loop, Return, Abort, Break, Continue}
use Rattle.expression_parser.specs.declared.block.BlockStep.{BlockStep}
use Rattle.expression_parser.specs.declared.block.BlockStep.TheVariants.{End, One}
use Rattle.parser_base.specs.declared.leaf.PathForm.{PathForm}
use Rattle.parser_base.specs.declared.leaf.PathForm.TheVariants.{Call, Pack, Alone}
use Rattle.parser_base.specs.declared.leaf.BehindFirst.{BehindFirst}
use Rattle.parser_base.specs.declared.leaf.BehindFirst.TheVariants.{Close, As, Comma}
use Rattle.parser_base.specs.LeafReading.{plain_literal_at, vector_span_at, assert_span_at, prefix_at, use_at, control_at, may_begin, spec_opening_at, path_form_at, glued_arguments_at, has_arguments, behind_first_at, spec_statement_at, annotation_at, cast_target_at}
use Rattle.parser_base.specs.OperatorReading.{joints}
use Rattle.parser_base.specs.ParenthesesReading.{several}

-- readers of types, patterns, and expressions of at least a level
pub record Readers : Type 0 where
  pub types : List Token → Read SourceTypeData
  pub patterns : List Token → Read PatternData
  pub expressions : ℕ → List Token → Read ExpressionData

-- any expression
abbrev pub any : Readers → List Token → Read ExpressionData
any inner ts = inner.expressions 0 ts

-- ---- calls, packs and vectors

unfoldable pub field_value_at : (List Token → Read ExpressionData) → List Token → Read FieldValueData
field_value_at values ts =
    option_and_then (λ name. option_map_or (λ rest. option_map (λ value. (LongFieldValue name.0 value.0, value.1)) (values rest)) (after_sign Colon name.1) (Some (ShortFieldValue name.0, name.1))) (identifier_at ts)

-- after a path, its type arguments, and the bracket of a call or a pack
abbrev pub path_form : Readers → Path → MaybeArgumentsData → PathForm → List Token → Read ExpressionData
path_form inner path given Call ts = option_map (λ values. (CallExpression path given (expressions_of values.0.0) values.0.1, values.1)) (comma_list_at (after_sign RightParenthesis) (any inner) ts)
path_form inner path given Pack ts = option_map (λ fields. (PackExpression path given (field_values_of fields.0.0) fields.0.1, fields.1)) (comma_list_at (after_sign RightBrace) (field_value_at (any inner)) ts)
path_form inner path given Alone ts = Some (PathExpression path, ts)

unfoldable pub path_term_at : Readers → List Token → Read ExpressionData
path_term_at inner ts =
    option_and_then (λ path.
    option_and_then (λ arguments.
    option_and_then (λ form. path_form inner path.0 arguments.0 form.0 form.1)
    (path_form_at (has_arguments arguments.0) path.0 arguments.1)) (glued_arguments_at inner.types path.1)) (path_at ts)

-- after `vector`
unfoldable pub vector_at : Readers → Span → List Token → Read ExpressionData
vector_at inner span ts =
    option_and_then (λ arguments.
    option_and_then (λ rest.
    option_map (λ items. (VectorExpression span arguments.0 (expressions_of items.0.0) items.0.1, items.1))
    (comma_list_at (after_sign RightBracket) (any inner) rest)) (after_sign LeftBracket arguments.1)) (maybe_arguments_at inner.types ts)

-- after `assert!`
unfoldable pub assert_at : Readers → Span → List Token → Read ExpressionData
assert_at inner span ts =
    option_and_then (λ inside.
    option_and_then (λ condition.
    option_and_then (λ behind.
    option_and_then (λ code.
    option_map (λ rest. (AssertExpression span condition.0 code.0, rest))
    (after_sign RightParenthesis code.1)) (any inner behind)) (after_sign comma_sign condition.1)) (any inner inside)) (after_sign LeftParenthesis ts)

-- ---- parentheses

abbrev pub behind_first : Readers → Span → ExpressionData → BehindFirst → List Token → Read ExpressionData
behind_first inner span first Close ts = Some (TupleExpression span (expressions_of (first ∷ [])) false, ts)
behind_first inner span first As ts = option_map (λ target. (CastExpression span first target.0, target.1)) (cast_target_at inner.types ts)
behind_first inner span first Comma ts = option_and_then (λ items. several span first items.0 items.1) (comma_list_at (after_sign RightParenthesis) (any inner) ts)

-- after an opening parenthesis
unfoldable pub parenthesized_at : Readers → Span → List Token → Read ExpressionData
parenthesized_at inner span ts =
    option_map_or (λ rest. Some (TupleExpression span (expressions_of []) false, rest)) (after_sign RightParenthesis ts)
    (option_and_then (λ first. option_and_then (λ form. behind_first inner span first.0 form.0 form.1) (behind_first_at first.1)) (any inner ts))

-- ---- blocks

unfoldable pub initial_at : Readers → List Token → Read (Option ExpressionData)
initial_at inner ts = option_map_or (λ rest. option_map (λ e. (Some e.0, e.1)) (any inner rest)) (after_sign Equal ts) (Some (None, ts))

-- after `let`, up to its semicolon
unfoldable pub let_at : Readers → Span → List Token → Read ItemData
let_at inner span ts =
    option_and_then (λ pattern.
    option_and_then (λ annotation.
    option_and_then (λ value.
    option_map (λ rest. (LetItem span pattern.0 annotation.0 (maybe_expression_of value.0), rest))
    (after_sign Semicolon value.1)) (initial_at inner annotation.1)) (annotation_at inner.types pattern.1)) (inner.patterns ts)

-- an expression with its semicolon, or the value of a block with the closing brace
unfoldable pub step_behind : ExpressionData → List Token → Read BlockStep
step_behind e ts =
    option_map_or (λ rest. Some (One (ExpressionItem e), rest)) (after_sign Semicolon ts)
    (option_map (λ rest. (End (Some e), rest)) (after_sign RightBrace ts))

-- one item, or the end of the block
unfoldable pub step_at : Readers → List Token → Read BlockStep
step_at inner ts =
    option_map_or (λ rest. Some (End None, rest)) (after_sign RightBrace ts)
    (option_map_or (λ p. option_map (λ item. (One item.0, item.1)) (let_at inner p.0 p.1)) (word_span_at (codes "let") ts)
    (option_and_then (λ e. step_behind e.0 e.1) (any inner ts)))

-- the items of a block and its value
abbrev pub Contents : Type 0
Contents = List ItemData × Option ExpressionData

abbrev pub put_items : List ItemData → Read Contents → Read Contents
put_items items read = option_map (λ r. ((items ++ r.0.0, r.0.1), r.1)) read

abbrev pub contents_behind : BlockStep → List Token → Read Contents → Read Contents
contents_behind (End value) rest more = Some (([], value), rest)
contents_behind (One item) rest more = put_items (item ∷ []) more

unfoldable pub contents_at : Readers → ℕ → List Token → Read Contents
contents_at inner zero ts = None
contents_at inner (suc n) ts = option_and_then (λ s. contents_behind s.0 s.1 (contents_at inner n s.1)) (step_at inner ts)

abbrev pub whole_contents_at : Readers → List Token → Read Contents
whole_contents_at inner ts = contents_at inner (length ts) ts

-- after the opening brace of a block
unfoldable pub block_at : Readers → Span → List Token → Read ExpressionData
block_at inner span ts = option_map (λ c. (BlockExpression (BlockOf span None (items_of c.0.0) (maybe_expression_of c.0.1)), c.1)) (whole_contents_at inner ts)

-- a block with the spec block of its loop; `valued` says whether it must have a value
unfoldable pub spec_body_at : Readers → Bool → Span → List Token → Read ExpressionData
spec_body_at inner valued span ts =
    option_and_then (λ spec.
    option_and_then (λ c. if valued && (if is_some c.0.1 then false else true) then None else Some (BlockExpression (BlockOf span (Some spec.0) (items_of c.0.0) (maybe_expression_of c.0.1)), c.1))
    (whole_contents_at inner spec.1)) (spec_statement_at ts)

-- the condition of a `while` or the body of a `loop`
unfoldable pub body_at : Readers → Bool → List Token → Read ExpressionData
body_at inner valued ts = option_map_or (λ p. spec_body_at inner valued p.0 p.1) (spec_opening_at ts) (any inner ts)

-- ---- control forms

unfoldable pub else_at : Readers → Span → ExpressionData → ExpressionData → List Token → Read ExpressionData
else_at inner span condition then_branch ts =
    option_map_or (λ rest. option_map (λ e. (IfExpression span condition then_branch (SomeExpression e.0), e.1)) (any inner rest)) (after_word (codes "else") ts)
    (Some (IfExpression span condition then_branch NoExpression, ts))

unfoldable pub if_at : Readers → Span → List Token → Read ExpressionData
if_at inner span ts =
    option_and_then (λ inside.
    option_and_then (λ condition.
    option_and_then (λ behind.
    option_and_then (λ then_branch. else_at inner span condition.0 then_branch.0 then_branch.1)
    (any inner behind)) (after_sign RightParenthesis condition.1)) (any inner inside)) (after_sign LeftParenthesis ts)

unfoldable pub while_at : Readers → Span → List Token → Read ExpressionData
while_at inner span ts =
    option_and_then (λ inside.
    option_and_then (λ condition.
    option_and_then (λ behind.
    option_map (λ body. (WhileExpression span condition.0 body.0, body.1))
    (any inner behind)) (after_sign RightParenthesis condition.1)) (body_at inner true inside)) (after_sign LeftParenthesis ts)

unfoldable pub return_at : Readers → Span → List Token → Read ExpressionData
return_at inner span ts =
    if may_begin ts then option_map (λ value. (ReturnExpression span (SomeExpression value.0), value.1)) (any inner ts)
    else Some (ReturnExpression span NoExpression, ts)

abbrev pub control_form : Readers → Control → Span → List Token → Read ExpressionData
control_form inner If span ts = if_at inner span ts
control_form inner While span ts = while_at inner span ts
control_form inner Loop span ts = option_map (λ body. (LoopExpression span body.0, body.1)) (body_at inner false ts)
control_form inner Return span ts = return_at inner span ts
control_form inner Abort span ts = option_map (λ code. (AbortExpression span code.0, code.1)) (any inner ts)
control_form inner Break span ts = Some (BreakExpression span, ts)
control_form inner Continue span ts = Some (ContinueExpression span, ts)

-- ---- operands

unfoldable pub term_at : Readers → List Token → Read ExpressionData
term_at inner ts =
    option_map_or (λ p. parenthesized_at inner p.0 p.1) (sign_span_at LeftParenthesis ts)
    (option_map_or (λ p. block_at inner p.0 p.1) (sign_span_at LeftBrace ts)
    (option_map_or (λ p. option_map (λ a. (LiteralExpression (address_literal p.0 a.0), a.1)) (address_at p.1)) (sign_span_at AtSign ts)
    (option_map_or (λ l. Some (LiteralExpression l.0, l.1)) (plain_literal_at ts)
    (option_map_or (λ p. vector_at inner p.0 p.1) (vector_span_at ts)
    (option_map_or (λ p. assert_at inner p.0 p.1) (assert_span_at ts)
    (path_term_at inner ts))))))

-- the fields after a term, in at most this many steps
unfoldable pub fields_at : ℕ → ExpressionData → List Token → Read ExpressionData
fields_at zero base ts = None
fields_at (suc n) base ts =
    option_map_or (λ rest. option_and_then (λ field. fields_at n (FieldExpression base field.0) field.1) (identifier_at rest)) (after_sign Period ts) (Some (base, ts))

abbrev pub whole_fields_at : ExpressionData → List Token → Read ExpressionData
whole_fields_at base ts = fields_at (suc (length ts)) base ts

unfoldable pub operand_at : Readers → List Token → Read ExpressionData
operand_at inner ts =
    option_map_or (λ p. option_map (λ e. (UnaryExpression p.0.0 p.0.1 e.0, e.1)) (inner.expressions unary_level p.1)) (prefix_at ts)
    (option_map_or (λ u. option_map (λ local. (UseExpression u.0.0 u.0.1 local.0, local.1)) (identifier_at u.1)) (use_at ts)
    (option_and_then (λ term. whole_fields_at term.0 term.1) (term_at inner ts)))

-- ---- expressions

-- an assignment after its target and `=`, or operators after an operand
unfoldable pub behind_operand : Readers → ExpressionData → List Token → Read ExpressionData
behind_operand inner operand ts =
    option_map_or (λ p. option_map (λ value. (AssignExpression operand p.0 value.0, value.1)) (any inner p.1)) (sign_span_at Equal ts)
    (whole_chain_at joints inner.expressions 1 operand ts)

unfoldable pub any_form : Readers → List Token → Read ExpressionData
any_form inner ts =
    option_map_or (λ c. control_form inner c.0.0 c.0.1 c.1) (control_at ts)
    (option_and_then (λ operand. behind_operand inner operand.0 operand.1) (operand_at inner ts))

unfoldable pub expression_form : Readers → ℕ → List Token → Read ExpressionData
expression_form inner minimum ts =
    if minimum == 0 then any_form inner ts
    else option_and_then (λ operand. whole_chain_at joints inner.expressions minimum operand.0 operand.1) (operand_at inner ts)

-- an expression of at least this level that is nested at most this deep
unfoldable pub expression_at : ℕ → ℕ → List Token → Read ExpressionData
expression_at zero minimum ts = None
expression_at (suc n) minimum ts = expression_form (record { types = type_at n; patterns = pattern_at n; expressions = expression_at n }) minimum ts

abbrev pub readers : ℕ → Readers
readers n = record { types = type_at n; patterns = pattern_at n; expressions = expression_at n }

-- the body of a function, after its brace
unfoldable pub body_block_at : Readers → Span → List Token → Read BlockData
body_block_at inner span ts = option_map (λ c. (BlockOf span None (items_of c.0.0) (maybe_expression_of c.0.1), c.1)) (whole_contents_at inner ts)
