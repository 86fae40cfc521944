use Rattle.std.proofs.Common.{◌≡◌, ◌+◌, ◌*◌, ◌-◌, length}
use Rattle.tokens.specs.declared.token.Punctuation.TheVariants.{RightParenthesis, RightBrace}
use Rattle.parser_base.specs.TokenReading.{after_sign}
use Rattle.parser_base.specs.ListReading.{items_at, put_before}
use Rattle.parser_base.specs.PatternReading.{pattern_at, field_pattern_at}
use Rattle.parser_base.proofs.pattern.+read_pattern.Given as goal

abbrev pub decreases-read_pattern : goal.decreases-read_pattern
decreases-read_pattern l = 9 * l.budget

abbrev pub decreases-read_pattern_form : goal.decreases-read_pattern_form
decreases-read_pattern_form l = 9 * l.budget + 8

abbrev pub decreases-read_pattern_behind : goal.decreases-read_pattern_behind
decreases-read_pattern_behind l = 9 * l.budget + 7

abbrev pub decreases-read_tuple_pattern : goal.decreases-read_tuple_pattern
decreases-read_tuple_pattern l = 9 * l.budget + 6

abbrev pub decreases-read_patterns : goal.decreases-read_patterns
decreases-read_patterns l = 9 * l.budget + 5

abbrev pub decreases-read_unpack : goal.decreases-read_unpack
decreases-read_unpack l = 9 * l.budget + 4

abbrev pub decreases-read_field_patterns : goal.decreases-read_field_patterns
decreases-read_field_patterns l = 9 * l.budget + 3

abbrev pub decreases-read_some_field_patterns : goal.decreases-read_some_field_patterns
decreases-read_some_field_patterns l = 9 * l.budget + 2

abbrev pub decreases-read_field_pattern : goal.decreases-read_field_pattern
decreases-read_field_pattern l = 9 * l.budget + 1

abbrev pub invariant-read_patterns-loop : goal.invariant-read_patterns-loop
invariant-read_patterns-loop l =
    items_at (after_sign RightParenthesis) (pattern_at l.budget) (length l.tokens) l.tokens
    ≡ put_before l.items.items (items_at (after_sign RightParenthesis) (pattern_at l.budget) (length l.tokens - l.counter) l.rest)

abbrev pub invariant-read_some_field_patterns-loop : goal.invariant-read_some_field_patterns-loop
invariant-read_some_field_patterns-loop l =
    items_at (after_sign RightBrace) (field_pattern_at (pattern_at l.budget)) (length l.tokens) l.tokens
    ≡ put_before l.items.items (items_at (after_sign RightBrace) (field_pattern_at (pattern_at l.budget)) (length l.tokens - l.counter) l.rest)
