use Rattle.std.proofs.Common.{true, ◌≡◌, ◌-◌, length}
use Rattle.tokens.specs.declared.token.Punctuation.TheVariants.{RightBrace}
use Rattle.parser_base.specs.TokenReading.{after_sign}
use Rattle.parser_base.specs.ListReading.{items_at, put_before}
use Rattle.expression_parser.specs.SpecReading.{spec_at, spec_field_at}
use Rattle.item_parser.proofs.spec.includes.read_some_bindings.Given as goal

abbrev pub invariant-loop : goal.invariant-loop
invariant-loop l = items_at (after_sign RightBrace) (spec_field_at (spec_at l.budget true 0)) (length l.tokens) l.tokens ≡ put_before l.items.items (items_at (after_sign RightBrace) (spec_field_at (spec_at l.budget true 0)) (length l.tokens - l.counter) l.rest)
