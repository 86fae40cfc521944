use Rattle.std.proofs.Common.{◌≡◌, ◌-◌, length}
use Rattle.tokens.specs.declared.token.Punctuation.TheVariants.{Semicolon}
use Rattle.parser_base.specs.TokenReading.{after_sign}
use Rattle.parser_base.specs.ListReading.{items_at, put_before}
use Rattle.item_parser.specs.ClauseReading.{pragma_at}
use Rattle.item_parser.proofs.spec.pragmas.read_pragma_list.Given as goal

abbrev pub invariant-loop : goal.invariant-loop
invariant-loop l = items_at (after_sign Semicolon) pragma_at (length l.tokens) l.tokens ≡ put_before l.items.items (items_at (after_sign Semicolon) pragma_at (length l.tokens - l.counter) l.rest)
