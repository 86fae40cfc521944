use Rattle.std.proofs.Common.{◌≡◌, ◌-◌, length, ◌∷◌, []}
use Rattle.tokens.specs.declared.token.Punctuation.TheVariants.{Plus}
use Rattle.parser_base.specs.TokenReading.{after_sign}
use Rattle.parser_base.specs.RepeatReading.{put_all, repeat_at}
use Rattle.parser_base.specs.AbilityReading.{ability_at}
use Rattle.parser_base.proofs.abilities.read_added_abilities.Given as goal

abbrev pub invariant-loop : goal.invariant-loop
invariant-loop l =
    put_all (l.fn.first ∷ []) (repeat_at (after_sign Plus) ability_at (length l.tokens) l.tokens)
    ≡ put_all l.items.items (repeat_at (after_sign Plus) ability_at (length l.tokens - l.counter) l.rest)
