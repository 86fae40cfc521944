use Rattle.std.proofs.Common.{◌≡◌, ◌-◌, length}
use Rattle.parser_base.specs.TokenReading.{after_sign}
use Rattle.parser_base.specs.ListReading.{items_at, put_before}
use Rattle.parser_base.specs.TypeReading.{type_at}
use Rattle.parser_base.specs.TypedNameReading.{typed_name_at}
use Rattle.parser_base.proofs.typed_names.read_some_typed_names.Given as goal

abbrev pub invariant-loop : goal.invariant-loop
invariant-loop l = items_at (after_sign l.close) (typed_name_at l.of_function (type_at l.budget)) (length l.tokens) l.tokens ≡ put_before l.items.items (items_at (after_sign l.close) (typed_name_at l.of_function (type_at l.budget)) (length l.tokens - l.counter) l.rest)
