-- The reader of the spec block of a slot.
use Rattle.std.specs.Prelude.{ℕ, true, false, if◌then◌else◌, List, None, option_and_then, codes}
use Rattle.std.specs.Option.{option_map}
use Rattle.base.specs.declared.span.Span.{Span}
use Rattle.tokens.specs.declared.token.Token.{Token}
use Rattle.tokens.specs.declared.token.Punctuation.TheVariants.{LeftParenthesis, LeftBrace, RightBrace, Colon}
use Rattle.syntax_tree.specs.declared.lexeme.Identifier.{Identifier}
use Rattle.syntax_tree.specs.SpecExpressionData.{SpecExpressionData}
use Rattle.syntax_tree.specs.declared.slot.Slot.{Slot}
use Rattle.syntax_tree.specs.declared.slot.Slot.TheVariants.{Function as of_function, Struct as of_struct, Module as of_module, Schema as of_schema, SpecFunction as of_spec_function, Loop as of_loop}
use Rattle.syntax_tree.specs.declared.clause.Spec.{Spec}
use Rattle.syntax_tree.specs.declared.clause.Spec.TheVariants.{Module as module_spec, Named as named_spec, Schema as schema_spec, Function as function_spec, Loop as loop_spec}
use Rattle.parser_base.specs.TokenReading.{Read, begins_capital, after_sign, after_word, word_span_at, identifier_at}
use Rattle.parser_base.specs.TypeReading.{type_at}
use Rattle.parser_base.specs.ParameterReading.{parameters_at}
use Rattle.parser_base.specs.TypedNameReading.{inputs_at}
use Rattle.expression_parser.specs.SpecReading.{spec_at}
use Rattle.item_parser.specs.BlockReading.{block_at}

-- ---- blocks of clauses

-- the block of a function or a struct after `spec`
unfoldable pub named_at : Slot → ℕ → Span → List Token → Read Spec
named_at slot n span ts =
    option_and_then (λ name. option_map (λ c. (named_spec span name.0 c.0, c.1)) (block_at slot n name.1)) (identifier_at ts)

-- the block of a module after `module`
unfoldable pub module_at : ℕ → Span → List Token → Read Spec
module_at n span ts = option_map (λ c. (module_spec span c.0, c.1)) (block_at of_module n ts)

-- the block of a loop after `spec`
unfoldable pub loop_at : ℕ → Span → List Token → Read Spec
loop_at n span ts = option_map (λ c. (loop_spec span c.0, c.1)) (block_at of_loop n ts)

-- ---- schemas

-- a schema after its name
unfoldable pub schema_behind_name : ℕ → Span → Identifier → List Token → Read Spec
schema_behind_name n span name ts =
    option_and_then (λ parameters.
    option_map (λ c. (schema_spec (record { span = span; name = name; parameters = parameters.0; clauses = c.0 }), c.1))
    (block_at of_schema n parameters.1)) (parameters_at false ts)

unfoldable pub schema_at : ℕ → Span → List Token → Read Spec
schema_at n span ts = option_and_then (λ name. if begins_capital name.0.text then schema_behind_name n span name.0 name.1 else None) (identifier_at ts)

-- ---- spec functions

-- an expression in its braces
unfoldable pub body_at : ℕ → List Token → Read SpecExpressionData
body_at n ts =
    option_and_then (λ inside. option_and_then (λ e. option_map (λ rest. (e.0, rest)) (after_sign RightBrace e.1)) (spec_at n true 0 inside)) (after_sign LeftBrace ts)

unfoldable pub spec_function_at : ℕ → Span → List Token → Read Spec
spec_function_at n span ts =
    option_and_then (λ name.
    option_and_then (λ parameters.
    option_and_then (λ inside.
    option_and_then (λ inputs.
    option_and_then (λ colon.
    option_and_then (λ result.
    option_map (λ body. (function_spec (record { span = span; name = name.0; parameters = parameters.0; inputs = inputs.0; result = result.0; body = body.0 }), body.1))
    (body_at n result.1)) (type_at n colon)) (after_sign Colon inputs.1)) (inputs_at (type_at n) inside)) (after_sign LeftParenthesis parameters.1)) (parameters_at false name.1)) (identifier_at ts)

-- ---- all blocks

abbrev pub behind_word : List ℕ → (List Token → Read Spec) → List Token → Read Spec
behind_word word read ts = option_and_then (λ rest. read rest) (after_word word ts)

unfoldable pub behind_spec : Slot → ℕ → Span → List Token → Read Spec
behind_spec of_function n span ts = named_at of_function n span ts
behind_spec of_struct n span ts = named_at of_struct n span ts
behind_spec of_module n span ts = behind_word (codes "module") (module_at n span) ts
behind_spec of_schema n span ts = behind_word (codes "schema") (schema_at n span) ts
behind_spec of_spec_function n span ts = behind_word (codes "fun") (spec_function_at n span) ts
behind_spec of_loop n span ts = loop_at n span ts

unfoldable pub spec_block_at : Slot → ℕ → List Token → Read Spec
spec_block_at slot n ts = option_and_then (λ p. behind_spec slot n p.0 p.1) (word_span_at (codes "spec") ts)
