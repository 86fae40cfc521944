-- The reader of spec expressions. `inner` reads the nested ones, given whether an open pack is allowed and the loosest
-- level allowed, and `types` the types: both with a nesting of one less. Level 0 allows quantified expressions and `if`
-- as well.
use Rattle.std.specs.Prelude.{ℕ, zero, suc, Bool, true, false, ◌==◌, ◌||◌, if◌then◌else◌, List, [], ◌∷◌, ◌++◌, Option, Some, None, is_some, option_and_then, codes}
use Rattle.std.specs.Option.{option_map, option_map_or}
use Rattle.base.specs.declared.span.Span.{Span}
use Rattle.tokens.specs.declared.token.Token.{Token}
use Rattle.tokens.specs.declared.token.Punctuation.TheVariants.{LeftParenthesis, RightParenthesis, LeftBrace, RightBrace, LeftBracket, RightBracket, Colon, Period, Exclaim, Less, AtSign}
use Rattle.syntax_tree.specs.declared.path.Path.{Path}
use Rattle.syntax_tree.specs.ProperExpressions.{unary_level}
use Rattle.syntax_tree.specs.TypeTreeData.{SourceTypeData, MaybeArgumentsData, NoArguments, SomeArguments}
use Rattle.syntax_tree.specs.declared.spec_expression.operator.Quantifier.{Quantifier}
use Rattle.syntax_tree.specs.SpecExpressionData.{SpecExpressionData, SpecQuantified, SpecIf, SpecNot, SpecField, SpecIndex, SpecLiteral, SpecPath, SpecCall, SpecPack, SpecParenthesized, BindData, TypedBind, RangeBind, TriggerData, TriggerOf, SpecFieldData, ShortSpecField, LongSpecField, spec_expressions_of, binds_of, triggers_of, spec_fields_of}
use Rattle.parser_base.specs.TokenReading.{Read, after_sign, sign_span_at, after_word, word_span_at, identifier_at}
use Rattle.parser_base.specs.ListReading.{some_items_at, comma_list_at}
use Rattle.parser_base.specs.ChainReading.{whole_chain_at}
use Rattle.parser_base.specs.PathReading.{path_at}
use Rattle.parser_base.specs.TypeReading.{arguments_at, type_at}
use Rattle.expression_parser.specs.RepeatReading.{whole_repeat_at}
use Rattle.parser_base.specs.LeafReading.{after_glued, plain_literal_at}
use Rattle.expression_parser.specs.OperatorReading.{spec_joints}
use Rattle.expression_parser.specs.LeafReading.{address_literal_at, quantifier_at, has_postfix, pack_opened}

-- readers of spec expressions, and of those in brackets
abbrev pub Reader : Type 0
Reader = List Token → Read SpecExpressionData

-- ---- calls and packs

-- values up to a parenthesis; `item` reads those in brackets
unfoldable pub call_at : Reader → Path → MaybeArgumentsData → List Token → Read SpecExpressionData
call_at item path arguments ts =
    option_map (λ values. (SpecCall path arguments (spec_expressions_of values.0.0) values.0.1, values.1)) (comma_list_at (after_sign RightParenthesis) item ts)

unfoldable pub spec_field_at : Reader → List Token → Read SpecFieldData
spec_field_at item ts =
    option_and_then (λ name. option_map_or (λ rest. option_map (λ v. (LongSpecField name.0 v.0, v.1)) (item rest)) (after_sign Colon name.1) (Some (ShortSpecField name.0, name.1))) (identifier_at ts)

unfoldable pub pack_at : Reader → Path → MaybeArgumentsData → List Token → Read SpecExpressionData
pack_at item path arguments ts =
    option_map (λ fields. (SpecPack path arguments (spec_fields_of fields.0.0) fields.0.1, fields.1)) (comma_list_at (after_sign RightBrace) (spec_field_at item) ts)

-- a path alone has no type arguments
abbrev pub bare_path : Path → MaybeArgumentsData → List Token → Read SpecExpressionData
bare_path path NoArguments ts = Some (SpecPath path, ts)
bare_path path (SomeArguments arguments) ts = None

-- what follows a path and its type arguments
unfoldable pub applied_at : Reader → Bool → Path → MaybeArgumentsData → List Token → Read SpecExpressionData
applied_at item packs path arguments ts =
    option_map_or (λ inside. call_at item path arguments inside) (after_sign LeftParenthesis ts)
    (option_map_or (λ inside. pack_at item path arguments inside) (pack_opened packs path ts) (bare_path path arguments ts))

-- what follows a path: a glued `<` opens type arguments
unfoldable pub path_form : (List Token → Read SourceTypeData) → Reader → Bool → Path → List Token → Read SpecExpressionData
path_form types item packs path ts =
    option_map_or (λ inside. option_and_then (λ a. applied_at item packs path (SomeArguments a.0) a.1) (arguments_at types inside)) (after_glued Less ts)
    (applied_at item packs path NoArguments ts)

-- ---- terms

unfoldable pub parenthesized_at : Reader → Span → List Token → Read SpecExpressionData
parenthesized_at item span ts = option_and_then (λ e. option_map (λ rest. (SpecParenthesized span e.0, rest)) (after_sign RightParenthesis e.1)) (item ts)

-- a term that begins with none of the signs for terms
unfoldable pub plain_term_at : (List Token → Read SourceTypeData) → Reader → Bool → List Token → Read SpecExpressionData
plain_term_at types item packs ts =
    option_map_or (λ l. Some (SpecLiteral l.0, l.1)) (plain_literal_at ts)
    (option_and_then (λ path. path_form types item packs path.0 path.1) (path_at ts))

unfoldable pub term_at : (List Token → Read SourceTypeData) → Reader → Bool → List Token → Read SpecExpressionData
term_at types item packs ts =
    option_map_or (λ p. parenthesized_at item p.0 p.1) (sign_span_at LeftParenthesis ts)
    (option_map_or (λ p. option_map (λ l. (SpecLiteral l.0, l.1)) (address_literal_at p.0 p.1)) (sign_span_at AtSign ts) (plain_term_at types item packs ts))

-- ---- operands

unfoldable pub index_at : Reader → SpecExpressionData → List Token → Read SpecExpressionData
index_at item base ts = option_and_then (λ e. option_map (λ rest. (SpecIndex base e.0, rest)) (after_sign RightBracket e.1)) (item ts)

-- a field or an index after a term
unfoldable pub postfix_at : Reader → SpecExpressionData → List Token → Read SpecExpressionData
postfix_at item base ts =
    option_map_or (λ rest. option_map (λ name. (SpecField base name.0, name.1)) (identifier_at rest)) (after_sign Period ts)
    (option_and_then (λ rest. index_at item base rest) (after_sign LeftBracket ts))

unfoldable pub operand_at : (List Token → Read SourceTypeData) → (Bool → ℕ → Reader) → Bool → List Token → Read SpecExpressionData
operand_at types inner packs ts =
    option_map_or (λ p. option_map (λ e. (SpecNot p.0 e.0, e.1)) (inner packs unary_level p.1)) (sign_span_at Exclaim ts)
    (option_and_then (λ base. whole_repeat_at has_postfix (postfix_at (inner true 0)) base.0 base.1) (term_at types (inner true 0) packs ts))

-- operands joined by operators
unfoldable pub operated_at : (List Token → Read SourceTypeData) → (Bool → ℕ → Reader) → Bool → ℕ → List Token → Read SpecExpressionData
operated_at types inner packs minimum ts =
    option_and_then (λ first. whole_chain_at spec_joints (inner packs) minimum first.0 first.1) (operand_at types inner packs ts)

-- ---- quantifiers

-- a quantified variable and its domain
unfoldable pub bind_at : (List Token → Read SourceTypeData) → Reader → List Token → Read BindData
bind_at types range ts =
    option_and_then (λ name.
    option_map_or (λ rest. option_map (λ t. (TypedBind name.0 t.0, t.1)) (types rest)) (after_sign Colon name.1)
    (option_and_then (λ rest. option_map (λ r. (RangeBind name.0 r.0, r.1)) (range rest)) (after_word (codes "in") name.1))) (identifier_at ts)

-- binds end before triggers or the body
unfoldable pub binds_end : List Token → Option (List Token)
binds_end ts = if is_some (after_sign LeftBrace ts) || is_some (after_sign Colon ts) then Some ts else None

-- binds without a trailing comma
unfoldable pub binds_at : (List Token → Read SourceTypeData) → Reader → List Token → Read (List BindData)
binds_at types range ts = option_and_then (λ r. if r.0.1 then None else Some (r.0.0, r.1)) (some_items_at binds_end (bind_at types range) ts)

-- a trigger before the ones that a reader returns
unfoldable pub trigger_at : Reader → List TriggerData → List Token → Read (List TriggerData)
trigger_at item before ts =
    option_and_then (λ inside. option_map (λ r. (before ++ TriggerOf (spec_expressions_of r.0.0) r.0.1 ∷ [], r.1)) (some_items_at (after_sign RightBrace) item inside)) (after_sign LeftBrace ts)

-- decides whether a trigger is here
unfoldable pub has_trigger : List Token → Bool
has_trigger ts = is_some (after_sign LeftBrace ts)

-- a quantified expression after its word
unfoldable pub quantified_at : (List Token → Read SourceTypeData) → (Bool → ℕ → Reader) → Bool → Quantifier → Span → List Token → Read SpecExpressionData
quantified_at types inner packs quantifier span ts =
    option_and_then (λ binds.
    option_and_then (λ triggers.
    option_and_then (λ rest.
    option_map (λ body. (SpecQuantified quantifier span (binds_of binds.0) (triggers_of triggers.0) body.0, body.1))
    (inner packs 0 rest)) (after_sign Colon triggers.1)) (whole_repeat_at has_trigger (trigger_at (inner true 0)) [] binds.1)) (binds_at types (inner false 0) ts)

-- ---- all forms

-- a condition in its parentheses
unfoldable pub condition_at : Reader → List Token → Read SpecExpressionData
condition_at item ts =
    option_and_then (λ inside. option_and_then (λ e. option_map (λ rest. (e.0, rest)) (after_sign RightParenthesis e.1)) (item inside)) (after_sign LeftParenthesis ts)

-- an `if` after its word
unfoldable pub if_at : (Bool → ℕ → Reader) → Bool → Span → List Token → Read SpecExpressionData
if_at inner packs span ts =
    option_and_then (λ condition.
    option_and_then (λ chosen.
    option_and_then (λ rest.
    option_map (λ other. (SpecIf span condition.0 chosen.0 other.0, other.1))
    (inner packs 0 rest)) (after_word (codes "else") chosen.1)) (inner packs 0 condition.1)) (condition_at (inner true 0) ts)

-- a quantified expression, an `if`, or operands joined by operators of any level
unfoldable pub loose_at : (List Token → Read SourceTypeData) → (Bool → ℕ → Reader) → Bool → List Token → Read SpecExpressionData
loose_at types inner packs ts =
    option_map_or (λ q. quantified_at types inner packs q.0.0 q.0.1 q.1) (quantifier_at ts)
    (option_map_or (λ p. if_at inner packs p.0 p.1) (word_span_at (codes "if") ts) (operated_at types inner packs 0 ts))

unfoldable pub spec_form : (List Token → Read SourceTypeData) → (Bool → ℕ → Reader) → Bool → ℕ → Reader
spec_form types inner packs minimum ts = if minimum == 0 then loose_at types inner packs ts else operated_at types inner packs minimum ts

-- a spec expression nested at most this deep
unfoldable pub spec_at : ℕ → Bool → ℕ → Reader
spec_at zero packs minimum ts = None
spec_at (suc n) packs minimum ts = spec_form (type_at n) (spec_at n) packs minimum ts
