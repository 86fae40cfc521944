use Rattle.std.proofs.Common.{arith, rules, length, ◌-◌, ◌+◌}
use Rattle.tokens.specs.declared.token.Punctuation.TheVariants.{RightBrace}
use Rattle.parser_base.specs.TokenReading.{after_sign}
use Rattle.parser_base.proofs.ListSteps.{loop_is_over, loop_lacks_item, loop_is_stuck, loop_ends, loop_ends_behind_comma, loop_goes_on, fault_hands_on, IfNoTree-weaker, IfNoTree-always, same_read}
use Rattle.parser_base.proofs.ChainSteps.{chain_is_over, chain_ends, chain_is_stuck, chain_goes_on}
use Rattle.parser_base.specs.OperatorReading.{joints}
use Rattle.expression_parser.specs.ExpressionReading.{any, readers, expression_at, field_value_at}
use Rattle.expression_parser.proofs.Loops.{expression_at-turn, expression_at-none, block_is_over, block_is_stuck, block_ends, block_goes_on}
use Rattle.expression_parser.proofs.+expression.Goals as goal

pub expression::read_expression-returns-then-budget-eq0 : goal.expression::read_expression-returns-then-budget-eq0
expression::read_expression-returns-then-budget-eq0 t c = expression_at-none _ _ _ (omega arith)

pub expression::read_expression-returns : goal.expression::read_expression-returns
expression::read_expression-returns t c = same_read c.read_expression_form.result (λ read. (read.0, read.1.now)) _ _ (expression_at-turn _ _ _ (omega arith)) c.read_expression_form.ensures

pub lists::read_expressions-returns : goal.lists::read_expressions-returns
lists::read_expressions-returns t c = loop_is_over (after_sign c.args.close) (any (readers c.args.budget)) _ _ _ _ c.loop.invariant (omega arith)

pub lists::read_expressions-returns-in_err-item : goal.lists::read_expressions-returns-in_err-item
lists::read_expressions-returns-in_err-item t c =
    fault_hands_on c.from_residual.result _ _ _ c.from_residual.ensures.1
    (IfNoTree-weaker _ (loop_lacks_item (after_sign c.args.close) (any (readers c.args.budget)) _ _ _ (length c.args.tokens.now - (c.loop.counter + 1)) _ c.loop.invariant (omega arith)) c.in_err-item.ensures)

pub lists::read_expressions-returns-in_err-behind : goal.lists::read_expressions-returns-in_err-behind
lists::read_expressions-returns-in_err-behind t c =
    fault_hands_on c.from_residual-in_err-behind.result _ _ _ c.from_residual-in_err-behind.ensures.1
    (IfNoTree-always _ (loop_is_stuck (after_sign c.args.close) (any (readers c.args.budget)) _ _ _ (length c.args.tokens.now - (c.loop.counter + 1)) _ _ _ c.loop.invariant (omega arith) c.in_ok-item.ensures c.in_err-behind.ensures))

pub lists::read_expressions-returns-in-End-default : goal.lists::read_expressions-returns-in-End-default
lists::read_expressions-returns-in-End-default t c =
    loop_ends (after_sign c.args.close) (any (readers c.args.budget)) _ _ _ _ (length c.args.tokens.now - (c.loop.counter + 1)) _ _ _ _ _ c.loop.invariant (omega arith) c.in_ok-item.ensures c.in_ok-behind.ensures (search rules) c.in_ok-push.ensures.items

pub lists::read_expressions-returns-in-EndBehindComma-default : goal.lists::read_expressions-returns-in-EndBehindComma-default
lists::read_expressions-returns-in-EndBehindComma-default t c =
    loop_ends_behind_comma (after_sign c.args.close) (any (readers c.args.budget)) _ _ _ _ (length c.args.tokens.now - (c.loop.counter + 1)) _ _ _ _ _ c.loop.invariant (omega arith) c.in_ok-item.ensures c.in_ok-behind.ensures (search rules) c.in_ok-push.ensures.items

pub lists::read_expressions-loop-preserved : goal.lists::read_expressions-loop-preserved
lists::read_expressions-loop-preserved t c =
    loop_goes_on (after_sign c.args.close) (any (readers c.args.budget)) _ _ _ _ _ _ _ _ _ _ c.loop.invariant (omega arith) c.in_ok-item.ensures c.in_ok-behind.ensures (search rules) c.in_ok-push.ensures.items

pub lists::read_field_values-returns : goal.lists::read_field_values-returns
lists::read_field_values-returns t c = loop_is_over (after_sign RightBrace) (field_value_at (any (readers c.args.budget))) _ _ _ _ c.loop.invariant (omega arith)

pub lists::read_field_values-returns-in_err-item : goal.lists::read_field_values-returns-in_err-item
lists::read_field_values-returns-in_err-item t c =
    fault_hands_on c.from_residual.result _ _ _ c.from_residual.ensures.1
    (IfNoTree-weaker _ (loop_lacks_item (after_sign RightBrace) (field_value_at (any (readers c.args.budget))) _ _ _ (length c.args.tokens.now - (c.loop.counter + 1)) _ c.loop.invariant (omega arith)) c.in_err-item.ensures)

pub lists::read_field_values-returns-in_err-behind : goal.lists::read_field_values-returns-in_err-behind
lists::read_field_values-returns-in_err-behind t c =
    fault_hands_on c.from_residual-in_err-behind.result _ _ _ c.from_residual-in_err-behind.ensures.1
    (IfNoTree-always _ (loop_is_stuck (after_sign RightBrace) (field_value_at (any (readers c.args.budget))) _ _ _ (length c.args.tokens.now - (c.loop.counter + 1)) _ _ _ c.loop.invariant (omega arith) c.in_ok-item.ensures c.in_err-behind.ensures))

pub lists::read_field_values-returns-in-End-default : goal.lists::read_field_values-returns-in-End-default
lists::read_field_values-returns-in-End-default t c =
    loop_ends (after_sign RightBrace) (field_value_at (any (readers c.args.budget))) _ _ _ _ (length c.args.tokens.now - (c.loop.counter + 1)) _ _ _ _ _ c.loop.invariant (omega arith) c.in_ok-item.ensures c.in_ok-behind.ensures (search rules) c.in_ok-push.ensures.items

pub lists::read_field_values-returns-in-EndBehindComma-default : goal.lists::read_field_values-returns-in-EndBehindComma-default
lists::read_field_values-returns-in-EndBehindComma-default t c =
    loop_ends_behind_comma (after_sign RightBrace) (field_value_at (any (readers c.args.budget))) _ _ _ _ (length c.args.tokens.now - (c.loop.counter + 1)) _ _ _ _ _ c.loop.invariant (omega arith) c.in_ok-item.ensures c.in_ok-behind.ensures (search rules) c.in_ok-push.ensures.items

pub lists::read_field_values-loop-preserved : goal.lists::read_field_values-loop-preserved
lists::read_field_values-loop-preserved t c =
    loop_goes_on (after_sign RightBrace) (field_value_at (any (readers c.args.budget))) _ _ _ _ _ _ _ _ _ _ c.loop.invariant (omega arith) c.in_ok-item.ensures c.in_ok-behind.ensures (search rules) c.in_ok-push.ensures.items

pub expression::read_chain-returns : goal.expression::read_chain-returns
expression::read_chain-returns t c = chain_is_over joints (expression_at c.args.budget) c.args.minimum _ _ _ _ c.loop.invariant (omega arith)

pub expression::read_chain-returns-in_default : goal.expression::read_chain-returns-in_default
expression::read_chain-returns-in_default t c = chain_ends joints (expression_at c.args.budget) c.args.minimum _ _ (length c.args.tokens.now + 1 - (c.loop.counter + 1)) _ _ c.loop.invariant (omega arith) (search rules)

pub expression::read_chain-returns-in_err-right : goal.expression::read_chain-returns-in_err-right
expression::read_chain-returns-in_err-right t c =
    fault_hands_on c.from_residual.result _ _ _ c.from_residual.ensures.1
    (IfNoTree-weaker _ (chain_is_stuck joints (expression_at c.args.budget) c.args.minimum _ _ (length c.args.tokens.now + 1 - (c.loop.counter + 1)) c.right_level.result _ _ _ (c.in-Some.operator, c.in-Some.span) c.loop.invariant (omega arith) (search rules) c.right_level.ensures) c.in_err-right.ensures)

pub expression::read_chain-loop-preserved : goal.expression::read_chain-loop-preserved
expression::read_chain-loop-preserved t c = chain_goes_on joints (expression_at c.args.budget) c.args.minimum _ _ _ c.right_level.result _ _ _ _ (c.in-Some.operator, c.in-Some.span) _ _ c.loop.invariant (omega arith) (search rules) c.right_level.ensures c.in_ok-right.ensures (search rules)

pub block::read_contents-returns : goal.block::read_contents-returns
block::read_contents-returns t c = block_is_over (readers c.args.budget) _ _ _ _ c.loop.invariant (omega arith)

pub block::read_contents-returns-in_err-step : goal.block::read_contents-returns-in_err-step
block::read_contents-returns-in_err-step t c =
    fault_hands_on c.from_residual.result _ _ _ c.from_residual.ensures.1
    (IfNoTree-weaker _ (block_is_stuck (readers c.args.budget) _ _ _ (length c.args.tokens.now - (c.loop.counter + 1)) _ c.loop.invariant (omega arith)) c.in_err-step.ensures)

pub block::read_contents-returns-in-End : goal.block::read_contents-returns-in-End
block::read_contents-returns-in-End t c = block_ends (readers c.args.budget) _ _ _ (length c.args.tokens.now - (c.loop.counter + 1)) _ _ _ _ c.loop.invariant (omega arith) c.in_ok-step.ensures (search rules)

pub block::read_contents-loop-preserved : goal.block::read_contents-loop-preserved
block::read_contents-loop-preserved t c = block_goes_on (readers c.args.budget) _ _ _ _ _ _ _ _ _ c.loop.invariant (omega arith) c.in_ok-step.ensures (search rules) c.in_ok-push-in-One.ensures.items
