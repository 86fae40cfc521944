-- The reader of abilities.
use Rattle.std.specs.Prelude.{if◌then◌else◌, List, [], ◌∷◌, Option, Some, None, option_and_then, codes, length}
use Rattle.std.specs.Option.{option_map, option_map_or}
use Rattle.tokens.specs.declared.token.Token.{Token}
use Rattle.tokens.specs.declared.token.TokenKind.{TokenKind}
use Rattle.tokens.specs.declared.token.Punctuation.TheVariants.{Colon, Plus, LeftBrace}
use Rattle.syntax_tree.specs.declared.member.Ability.{Ability}
use Rattle.syntax_tree.specs.declared.member.Ability.TheVariants.{Copy as copy_ability, Drop as drop_ability, Store as store_ability, Key as key_ability}
use Rattle.syntax_tree.specs.MemberData.{AbilitiesData}
use Rattle.parser_base.specs.TokenReading.{Read, is_word, after_sign, before_sign, after_word}
use Rattle.parser_base.specs.ListReading.{some_items_at}
use Rattle.parser_base.specs.RepeatReading.{put_all, repeat_at}

unfoldable pub ability_of : TokenKind → Option Ability
ability_of kind =
    if is_word (codes "copy") kind then Some copy_ability
    else if is_word (codes "drop") kind then Some drop_ability
    else if is_word (codes "store") kind then Some store_ability
    else if is_word (codes "key") kind then Some key_ability
    else None

unfoldable pub ability_at : List Token → Read Ability
ability_at [] = None
ability_at (t ∷ ts) = option_map (λ a. (a, ts)) (ability_of t.kind)

-- the abilities after the first one, with `+` before each
unfoldable pub added_abilities_at : Ability → List Token → Read (List Ability)
added_abilities_at first ts = put_all (first ∷ []) (repeat_at (after_sign Plus) ability_at (length ts) ts)

-- the required abilities of a type parameter, or none
unfoldable pub constraint_at : List Token → Read (List Ability)
constraint_at ts = option_map_or (λ rest. option_and_then (λ a. added_abilities_at a.0 a.1) (ability_at rest)) (after_sign Colon ts) (Some ([], ts))

-- abilities up to the brace of a struct
unfoldable pub listed_abilities_at : List Token → Read AbilitiesData
listed_abilities_at ts = option_map (λ items. (record { items = items.0.0; last_comma = items.0.1 }, items.1)) (some_items_at (before_sign LeftBrace) ability_at ts)

-- the abilities of a struct, or none
unfoldable pub abilities_at : List Token → Read (Option AbilitiesData)
abilities_at ts = option_map_or (λ rest. option_map (λ a. (Some a.0, a.1)) (listed_abilities_at rest)) (after_word (codes "has") ts) (Some (None, ts))
