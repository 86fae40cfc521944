use Rattle.std.proofs.Common.{◌≡◌, ◌-◌, length}
use Rattle.tokens.specs.declared.token.Punctuation.TheVariants.{NumberSign}
use Rattle.parser_base.specs.TokenReading.{sign_span_at}
use Rattle.parser_base.specs.RepeatReading.{put_all, repeat_at}
use Rattle.item_parser.specs.AttributeReading.{placed_attribute_at}
use Rattle.item_parser.proofs.attributes.read_attributes.Given as goal

abbrev pub invariant-loop : goal.invariant-loop
invariant-loop l =
    repeat_at (sign_span_at NumberSign) placed_attribute_at (length l.tokens) l.tokens
    ≡ put_all l.items.items (repeat_at (sign_span_at NumberSign) placed_attribute_at (length l.tokens - l.counter) l.rest)
