use Rattle.std.proofs.Common.{◌≡◌, ◌+◌, ◌*◌, ◌-◌, length}
use Rattle.parser_base.specs.TokenReading.{after_sign}
use Rattle.parser_base.specs.ListReading.{items_at, put_before}
use Rattle.parser_base.specs.TypeReading.{type_at}
use Rattle.parser_base.proofs.types.+read_type.Given as goal

abbrev pub decreases-read_type : goal.decreases-read_type
decreases-read_type l = 8 * l.budget

abbrev pub decreases-read_type_form : goal.decreases-read_type_form
decreases-read_type_form l = 8 * l.budget + 7

abbrev pub decreases-read_reference : goal.decreases-read_reference
decreases-read_reference l = 8 * l.budget + 6

abbrev pub decreases-read_tuple : goal.decreases-read_tuple
decreases-read_tuple l = 8 * l.budget + 5

abbrev pub decreases-read_named : goal.decreases-read_named
decreases-read_named l = 8 * l.budget + 4

abbrev pub decreases-read_maybe_arguments : goal.decreases-read_maybe_arguments
decreases-read_maybe_arguments l = 8 * l.budget + 3

abbrev pub decreases-read_arguments : goal.decreases-read_arguments
decreases-read_arguments l = 8 * l.budget + 2

abbrev pub decreases-read_types : goal.decreases-read_types
decreases-read_types l = 8 * l.budget + 1

abbrev pub invariant-read_types-loop : goal.invariant-read_types-loop
invariant-read_types-loop l =
    items_at (after_sign l.close) (type_at l.budget) (length l.tokens) l.tokens ≡ put_before l.items.items (items_at (after_sign l.close) (type_at l.budget) (length l.tokens - l.counter) l.rest)
