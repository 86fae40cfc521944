-- The reader of spec blocks that a file tree keeps as tokens.
use Rattle.std.specs.Prelude.{◌-◌, Bool, true, false, if◌then◌else◌, List, [], ◌∷◌, Option, Some, None, option_and_then, codes, length, take}
use Rattle.std.specs.Option.{option_map}
use Rattle.tokens.specs.declared.token.Token.{Token}
use Rattle.tokens.specs.declared.token.Punctuation.{Punctuation as Sign}
use Rattle.tokens.specs.declared.token.Punctuation.TheVariants.{LeftBrace, RightBrace}
use Rattle.syntax_tree.specs.declared.spec_tokens.KeptSpec.{KeptSpec}
use Rattle.syntax_tree.specs.Balance.{expected_after}
use Rattle.parser_base.specs.TokenReading.{Read, is_sign, after_sign, after_word}
use Rattle.parser_base.specs.BalanceReading.{balanced_end}

-- whether no bracket is open
abbrev pub is_none_open : List Sign → Bool
is_none_open [] = true
is_none_open (w ∷ ws) = false

-- the tokens after the first brace, with balanced brackets before it, where `wanted` are open
unfoldable pub head_end : List Sign → List Token → Option (List Token)
head_end wanted [] = None
head_end wanted (t ∷ ts) =
    if is_sign LeftBrace t.kind then (if is_none_open wanted then Some ts else None)
    else option_and_then (λ more. head_end more ts) (expected_after (Some wanted) t.kind)

-- the tokens after a block whose head `heads` skips
unfoldable pub spec_end : (List Token → Option (List Token)) → List Token → Option (List Token)
spec_end heads ts = option_and_then (λ inside. option_and_then (λ body. balanced_end RightBrace [] body) (heads inside)) (after_word (codes "spec") ts)

-- the tokens before the remaining ones
abbrev pub front : List Token → List Token → List Token
front ts rest = take (length ts - length rest) ts

abbrev pub kept_at : (List Token → Option (List Token)) → List Token → Read KeptSpec
kept_at heads ts = option_map (λ rest. (record { tokens = front ts rest }, rest)) (spec_end heads ts)

-- the spec block of a member, from its keyword on
unfoldable pub member_spec_at : List Token → Read KeptSpec
member_spec_at ts = kept_at (head_end []) ts

-- the spec block of a loop, from its keyword on
unfoldable pub loop_spec_at : List Token → Read KeptSpec
loop_spec_at ts = kept_at (after_sign LeftBrace) ts
