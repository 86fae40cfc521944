-- The reader of modules and files. The number bounds the nesting of types and expressions.
use Rattle.std.specs.Prelude.{ℕ, if◌then◌else◌, List, [], ◌∷◌, Option, Some, None, is_some, option_and_then, codes, length}
use Rattle.std.specs.Option.{option_map}
use Rattle.tokens.specs.declared.token.Token.{Token}
use Rattle.tokens.specs.declared.token.Punctuation.TheVariants.{LeftBrace, RightBrace}
use Rattle.syntax_tree.specs.FileData.{MemberData, ModuleData}
use Rattle.parser_base.specs.TokenReading.{Read, after_sign, word_span_at}
use Rattle.parser_base.specs.PathReading.{module_name_at}
use Rattle.item_parser.specs.AttributeReading.{attributes_at}
use Rattle.parser_base.specs.RepeatReading.{repeat_at}
use Rattle.item_parser.specs.MemberReading.{member_at}

-- the same tokens, if another member begins, before the brace of the module
unfoldable pub before_member : List Token → Option (List Token)
before_member ts = if is_some (after_sign RightBrace ts) then None else Some ts

unfoldable pub members_at : ℕ → List Token → Read (List MemberData)
members_at n ts = repeat_at before_member (member_at n) (length ts) ts

-- a module after its word
unfoldable pub module_behind : ℕ → List Token → Read ModuleData
module_behind n ts =
    option_and_then (λ attributes.
    option_and_then (λ span.
    option_and_then (λ name.
    option_and_then (λ inside.
    option_and_then (λ members.
    option_map (λ rest. (record { attributes = attributes.0; span = span.0; name = name.0; members = members.0 }, rest))
    (after_sign RightBrace members.1)) (members_at n inside)) (after_sign LeftBrace name.1)) (module_name_at span.1)) (word_span_at (codes "module") attributes.1)) (attributes_at ts)

-- the same tokens, if there are any
abbrev pub before_module : List Token → Option (List Token)
before_module [] = None
before_module (t ∷ ts) = Some (t ∷ ts)

abbrev pub at_end : List ModuleData → List Token → Option (List ModuleData)
at_end modules [] = Some modules
at_end modules (t ∷ ts) = None

-- the modules of a file, which take all its tokens
unfoldable pub file_at : ℕ → List Token → Option (List ModuleData)
file_at n ts = option_and_then (λ modules. at_end modules.0 modules.1) (repeat_at before_module (module_behind n) (length ts) ts)
