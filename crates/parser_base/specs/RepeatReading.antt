-- The reader of items that follow one another without commas.
use Rattle.std.specs.Prelude.{ℕ, zero, suc, List, [], ◌∷◌, ◌++◌, Option, Some, option_and_then}
use Rattle.std.specs.Option.{option_map, option_map_or}
use Rattle.tokens.specs.declared.token.Token.{Token}
use Rattle.parser_base.specs.TokenReading.{Read}

-- these items before the ones that a reader returns
abbrev pub put_all : {X : Type 0} → List X → Read (List X) → Read (List X)
put_all before read = option_map (λ r. (before ++ r.0, r.1)) read

-- Items up to the first token that opens no more of them, in at most this many steps. `opens` reads the first token of
-- an item, and `item` reads the rest of it.
unfoldable pub repeat_at : {A X : Type 0} → (List Token → Option A) → (A → Read X) → ℕ → List Token → Read (List X)
repeat_at opens item zero ts = Some ([], ts)
repeat_at opens item (suc n) ts = option_map_or (λ a. option_and_then (λ x. put_all (x.0 ∷ []) (repeat_at opens item n x.1)) (item a)) (opens ts) (Some ([], ts))
