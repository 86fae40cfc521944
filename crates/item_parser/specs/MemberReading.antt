-- The reader of members. The number bounds the nesting of types and expressions.
use Rattle.std.specs.Prelude.{ℕ, Bool, true, false, if◌then◌else◌, List, [], ◌∷◌, Option, Some, None, option_and_then, codes}
use Rattle.std.specs.Option.{option_map, option_map_or}
use Rattle.base.specs.declared.span.Span.{Span}
use Rattle.tokens.specs.declared.token.Token.{Token}
use Rattle.tokens.specs.declared.token.Punctuation.TheVariants.{LeftParenthesis, LeftBrace, Semicolon, Colon, Equal}
use Rattle.syntax_tree.specs.declared.lexeme.Identifier.{Identifier}
use Rattle.syntax_tree.specs.declared.member.Constant.{Constant}
use Rattle.syntax_tree.specs.declared.member.Function.{Function}
use Rattle.syntax_tree.specs.declared.member.Visibility.{Visibility}
use Rattle.syntax_tree.specs.declared.member.MemberForm.{MemberForm}
use Rattle.syntax_tree.specs.declared.member.MemberForm.TheVariants.{Use as use_form, Friend as friend_form, Struct as struct_form, Constant as constant_form, Function as function_form, Spec as spec_form}
use Rattle.syntax_tree.specs.FileData.{MemberData}
use Rattle.parser_base.specs.TokenReading.{Read, after_sign, sign_span_at, word_span_at, identifier_at, begins_capital}
use Rattle.parser_base.specs.KeptReading.{member_spec_at}
use Rattle.parser_base.specs.TypeReading.{type_at}
use Rattle.expression_parser.specs.ExpressionReading.{readers, expression_at, body_block_at}
use Rattle.item_parser.specs.AttributeReading.{attributes_at}
use Rattle.item_parser.specs.ImportReading.{use_at, friend_at}
use Rattle.parser_base.specs.ParameterReading.{parameters_at}
use Rattle.parser_base.specs.TypedNameReading.{inputs_at}
use Rattle.item_parser.specs.HeaderReading.{visibility_at, entry_at, acquires_at}
use Rattle.parser_base.specs.LeafReading.{annotation_at}
use Rattle.item_parser.specs.StructReading.{struct_at}
use Rattle.item_parser.specs.declared.function.Signature.{Signature}

-- ---- constants

-- a constant after its name
unfoldable pub constant_behind_name : ℕ → Span → Identifier → List Token → Read Constant
constant_behind_name n span name ts =
    option_and_then (λ inside.
    option_and_then (λ annotation.
    option_and_then (λ behind.
    option_and_then (λ value.
    option_map (λ rest. (record { span = span; name = name; annotation = annotation.0; value = value.0 }, rest))
    (after_sign Semicolon value.1)) (expression_at n 0 behind)) (after_sign Equal annotation.1)) (type_at n inside)) (after_sign Colon ts)

-- after `const`
unfoldable pub constant_at : ℕ → Span → List Token → Read Constant
constant_at n span ts = option_and_then (λ name. if begins_capital name.0.text then constant_behind_name n span name.0 name.1 else None) (identifier_at ts)

-- ---- functions

-- the parts between the word `fun` and the body
unfoldable pub signature_at : ℕ → List Token → Read Signature
signature_at n ts =
    option_and_then (λ name.
    option_and_then (λ parameters.
    option_and_then (λ inside.
    option_and_then (λ inputs.
    option_and_then (λ result.
    option_map (λ acquires. (record { name = name.0; parameters = parameters.0; inputs = inputs.0; result = result.0; acquires = acquires.0 }, acquires.1))
    (acquires_at result.1)) (annotation_at (type_at n) inputs.1)) (inputs_at (type_at n) inside)) (after_sign LeftParenthesis parameters.1)) (parameters_at false name.1)) (identifier_at ts)

-- a function after its word
unfoldable pub function_behind : ℕ → Visibility → Option Span → Span → List Token → Read Function
function_behind n visibility entry span ts =
    option_and_then (λ s.
    option_and_then (λ brace.
    option_map (λ body. (record { visibility = visibility; entry = entry; span = span; name = s.0.name; parameters = s.0.parameters; inputs = s.0.inputs; result = s.0.result; acquires = s.0.acquires; body = body.0 }, body.1))
    (body_block_at (readers n) brace.0 brace.1)) (sign_span_at LeftBrace s.1)) (signature_at n ts)

unfoldable pub function_at : ℕ → List Token → Read Function
function_at n ts =
    option_and_then (λ visibility.
    option_and_then (λ span. function_behind n visibility.0 (entry_at visibility.1).0 span.0 span.1)
    (word_span_at (codes "fun") (entry_at visibility.1).1)) (visibility_at ts)

-- ---- members

unfoldable pub form_at : ℕ → List Token → Read MemberForm
form_at n ts =
    option_map_or (λ p. option_map (λ x. (use_form x.0, x.1)) (use_at p.0 p.1)) (word_span_at (codes "use") ts)
    (option_map_or (λ p. option_map (λ x. (friend_form x.0, x.1)) (friend_at p.0 p.1)) (word_span_at (codes "friend") ts)
    (option_map_or (λ p. option_map (λ x. (struct_form x.0, x.1)) (struct_at (type_at n) p.0 p.1)) (word_span_at (codes "struct") ts)
    (option_map_or (λ p. option_map (λ x. (constant_form x.0, x.1)) (constant_at n p.0 p.1)) (word_span_at (codes "const") ts)
    (option_map_or (λ p. option_map (λ x. (spec_form x.0, x.1)) (member_spec_at ts)) (word_span_at (codes "spec") ts)
    (option_map (λ x. (function_form x.0, x.1)) (function_at n ts))))))

unfoldable pub member_at : ℕ → List Token → Read MemberData
member_at n ts = option_and_then (λ attributes. option_map (λ form. (record { attributes = attributes.0; form = form.0 }, form.1)) (form_at n attributes.1)) (attributes_at ts)
