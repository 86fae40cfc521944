use Rattle.std.proofs.Common.{◌≡◌, ◌-◌, length}
use Rattle.tokens.specs.declared.token.Punctuation.TheVariants.{LeftBrace}
use Rattle.parser_base.specs.TokenReading.{before_sign}
use Rattle.parser_base.specs.ListReading.{items_at, put_before}
use Rattle.parser_base.specs.AbilityReading.{ability_at}
use Rattle.parser_base.proofs.abilities.read_ability_list.Given as goal

abbrev pub invariant-loop : goal.invariant-loop
invariant-loop l = items_at (before_sign LeftBrace) ability_at (length l.tokens) l.tokens ≡ put_before l.items.items (items_at (before_sign LeftBrace) ability_at (length l.tokens - l.counter) l.rest)
