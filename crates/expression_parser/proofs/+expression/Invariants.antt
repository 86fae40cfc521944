use Rattle.std.proofs.Common.{◌≡◌, ◌+◌, ◌*◌, ◌-◌, length}
use Rattle.tokens.specs.declared.token.Punctuation.TheVariants.{RightBrace}
use Rattle.parser_base.specs.TokenReading.{after_sign}
use Rattle.parser_base.specs.ListReading.{items_at, comma_list_at, put_before}
use Rattle.parser_base.specs.ChainReading.{chain_at, whole_chain_at}
use Rattle.parser_base.specs.OperatorReading.{joints}
use Rattle.expression_parser.specs.ExpressionReading.{any, readers, expression_at, field_value_at, contents_at, whole_contents_at, put_items}
use Rattle.expression_parser.proofs.+expression.Given as goal

abbrev pub decreases-expression::read_expression : goal.decreases-expression::read_expression
decreases-expression::read_expression l = 16 * l.budget

abbrev pub decreases-expression::read_boxed : goal.decreases-expression::read_boxed
decreases-expression::read_boxed l = 16 * l.budget + 1

abbrev pub decreases-expression::read_expression_form : goal.decreases-expression::read_expression_form
decreases-expression::read_expression_form l = 16 * l.budget + 15

abbrev pub decreases-expression::read_any_form : goal.decreases-expression::read_any_form
decreases-expression::read_any_form l = 16 * l.budget + 14

abbrev pub decreases-control::read_control : goal.decreases-control::read_control
decreases-control::read_control l = 16 * l.budget + 13

abbrev pub decreases-term::read_operand : goal.decreases-term::read_operand
decreases-term::read_operand l = 16 * l.budget + 13

abbrev pub decreases-control::read_if : goal.decreases-control::read_if
decreases-control::read_if l = 16 * l.budget + 12

abbrev pub decreases-control::read_while : goal.decreases-control::read_while
decreases-control::read_while l = 16 * l.budget + 12

abbrev pub decreases-expression::read_chain : goal.decreases-expression::read_chain
decreases-expression::read_chain l = 16 * l.budget + 12

abbrev pub decreases-term::read_term : goal.decreases-term::read_term
decreases-term::read_term l = 16 * l.budget + 12

abbrev pub decreases-block::read_body : goal.decreases-block::read_body
decreases-block::read_body l = 16 * l.budget + 11

abbrev pub decreases-term::read_parenthesized : goal.decreases-term::read_parenthesized
decreases-term::read_parenthesized l = 16 * l.budget + 11

abbrev pub decreases-term::read_path_term : goal.decreases-term::read_path_term
decreases-term::read_path_term l = 16 * l.budget + 11

abbrev pub decreases-term::read_vector : goal.decreases-term::read_vector
decreases-term::read_vector l = 16 * l.budget + 11

abbrev pub decreases-term::read_assert : goal.decreases-term::read_assert
decreases-term::read_assert l = 16 * l.budget + 11

abbrev pub decreases-block::read_contents : goal.decreases-block::read_contents
decreases-block::read_contents l = 16 * l.budget + 5

abbrev pub decreases-block::read_step : goal.decreases-block::read_step
decreases-block::read_step l = 16 * l.budget + 4

abbrev pub decreases-block::read_let : goal.decreases-block::read_let
decreases-block::read_let l = 16 * l.budget + 3

abbrev pub decreases-block::read_initial : goal.decreases-block::read_initial
decreases-block::read_initial l = 16 * l.budget + 2

abbrev pub decreases-lists::read_field_values : goal.decreases-lists::read_field_values
decreases-lists::read_field_values l = 16 * l.budget + 2

abbrev pub decreases-lists::read_field_value : goal.decreases-lists::read_field_value
decreases-lists::read_field_value l = 16 * l.budget + 1

abbrev pub decreases-lists::read_expressions : goal.decreases-lists::read_expressions
decreases-lists::read_expressions l = 16 * l.budget + 1

abbrev pub invariant-expression::read_chain-loop : goal.invariant-expression::read_chain-loop
invariant-expression::read_chain-loop l =
    whole_chain_at joints (expression_at l.budget) l.minimum l.fn.operand.value l.tokens
    ≡ chain_at joints (expression_at l.budget) l.minimum (length l.tokens + 1 - l.counter) l.left.value l.rest

abbrev pub invariant-lists::read_expressions-loop : goal.invariant-lists::read_expressions-loop
invariant-lists::read_expressions-loop l =
    comma_list_at (after_sign l.close) (any (readers l.budget)) l.tokens
    ≡ put_before l.items.items (items_at (after_sign l.close) (any (readers l.budget)) (length l.tokens - l.counter) l.rest)

abbrev pub invariant-lists::read_field_values-loop : goal.invariant-lists::read_field_values-loop
invariant-lists::read_field_values-loop l =
    comma_list_at (after_sign RightBrace) (field_value_at (any (readers l.budget))) l.tokens
    ≡ put_before l.items.items (items_at (after_sign RightBrace) (field_value_at (any (readers l.budget))) (length l.tokens - l.counter) l.rest)

abbrev pub invariant-block::read_contents-loop : goal.invariant-block::read_contents-loop
invariant-block::read_contents-loop l =
    whole_contents_at (readers l.budget) l.tokens ≡ put_items l.items.items (contents_at (readers l.budget) (length l.tokens - l.counter) l.rest)
