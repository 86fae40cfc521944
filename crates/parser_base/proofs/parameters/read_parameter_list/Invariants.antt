use Rattle.std.proofs.Common.{◌≡◌, ◌-◌, length}
use Rattle.tokens.specs.declared.token.Punctuation.TheVariants.{Greater}
use Rattle.parser_base.specs.TokenReading.{after_sign}
use Rattle.parser_base.specs.ListReading.{items_at, put_before}
use Rattle.parser_base.specs.ParameterReading.{parameter_at}
use Rattle.parser_base.proofs.parameters.read_parameter_list.Given as goal

abbrev pub invariant-loop : goal.invariant-loop
invariant-loop l = items_at (after_sign Greater) (parameter_at l.of_struct) (length l.tokens) l.tokens ≡ put_before l.items.items (items_at (after_sign Greater) (parameter_at l.of_struct) (length l.tokens - l.counter) l.rest)
