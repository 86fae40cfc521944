-- The reader of comma lists.
use Rattle.std.specs.Prelude.{ℕ, zero, suc, Bool, true, false, List, [], ◌∷◌, ◌++◌, Option, Some, None, option_and_then, length}
use Rattle.std.specs.Option.{option_map, option_map_or}
use Rattle.tokens.specs.declared.token.Token.{Token}
use Rattle.tokens.specs.declared.token.Punctuation.TheVariants.{Comma}
use Rattle.parser_base.specs.declared.lists.Separator.{Separator}
use Rattle.parser_base.specs.declared.lists.Separator.TheVariants.{Next, End, EndBehindComma}
use Rattle.parser_base.specs.TokenReading.{Read, after_sign}

-- items, and whether a comma follows the last one
abbrev pub Items : Type 0 → Type 0
Items X = List X × Bool

-- these items before the ones that a reader returns
abbrev pub put_before : {X : Type 0} → List X → Read (Items X) → Read (Items X)
put_before items read = option_map (λ r. ((items ++ r.0.0, r.0.1), r.1)) read

-- What follows an item: the end of the list, a comma and the end, or a comma before another item. `ends` returns the
-- tokens after the end, if the end is here.
unfoldable pub separator_at : (List Token → Option (List Token)) → List Token → Read Separator
separator_at ends ts =
    option_map_or (λ rest. Some (End, rest)) (ends ts) (option_map (λ us. option_map_or (λ rest. (EndBehindComma, rest)) (ends us) (Next, us)) (after_sign Comma ts))

-- the list from its first item on, by what follows that item
abbrev pub items_behind : {X : Type 0} → X → Separator → List Token → Read (Items X) → Read (Items X)
items_behind x End rest more = Some ((x ∷ [], false), rest)
items_behind x EndBehindComma rest more = Some ((x ∷ [], true), rest)
items_behind x Next rest more = put_before (x ∷ []) more

-- items up to the end of the list, in at most this many steps
unfoldable pub items_at : {X : Type 0} → (List Token → Option (List Token)) → (List Token → Read X) → ℕ → List Token → Read (Items X)
items_at ends item zero ts = None
items_at ends item (suc n) ts =
    option_and_then (λ x. option_and_then (λ s. items_behind x.0 s.0 s.1 (items_at ends item n s.1)) (separator_at ends x.1)) (item ts)

-- one or more items
abbrev pub some_items_at : {X : Type 0} → (List Token → Option (List Token)) → (List Token → Read X) → List Token → Read (Items X)
some_items_at ends item ts = items_at ends item (length ts) ts

-- any number of items
unfoldable pub comma_list_at : {X : Type 0} → (List Token → Option (List Token)) → (List Token → Read X) → List Token → Read (Items X)
comma_list_at ends item ts = option_map_or (λ rest. Some (([], false), rest)) (ends ts) (some_items_at ends item ts)
