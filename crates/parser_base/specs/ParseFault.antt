-- The reason why no tree spells the tokens, from the position where reading ended and from the markers in the tokens.
use Rattle.std.specs.Prelude.{◌≡◌, ◌-◌, ℕ, zero, suc, List, length, slice_get}
use Rattle.std.specs.Option.{option_map_or}
use Rattle.tokens.specs.declared.token.Token.{Token}
use Rattle.parser_base.specs.declared.fault.ReadFault.{ReadFault}
use Rattle.parser_base.specs.declared.fault.ReadFault.TheVariants.{NoTree, NoMemory as no_memory}
use Rattle.parser_base.specs.declared.explain.ParseFault.{ParseFault}
use Rattle.parser_base.specs.declared.explain.ParseFault.TheVariants.{Grammar, LeftOut, NoMemory}
use Rattle.parser_base.specs.Markers.{HoldNone, IsFirstMarker}

-- the start of the token with this index
abbrev pub start_at : List Token → ℕ → ℕ
start_at tokens index = option_map_or (λ t. t.span.start) (slice_get tokens index) 0

abbrev pub at_least_one : ℕ → ℕ
at_least_one zero = 1
at_least_one (suc n) = suc n

-- the reason why no tree was read, if reading ended at this byte offset
abbrev pub ExplainsAt : List Token → ℕ → ParseFault → Type 0
ExplainsAt tokens span (Grammar other) = HoldNone tokens × (other ≡ span)
ExplainsAt tokens span (LeftOut index) = IsFirstMarker tokens index
ExplainsAt tokens span NoMemory = ⊥

-- the first of the last `left` tokens, where reading ended, is impossible there
abbrev pub Explains : List Token → ReadFault → ParseFault → Type 0
Explains tokens (NoTree left) fault = ExplainsAt tokens (start_at tokens (length tokens - at_least_one left)) fault
Explains tokens no_memory fault = fault ≡ NoMemory
