use Rattle.std.proofs.Common.{arith, rules, length, ◌-◌, ◌+◌}
use Rattle.tokens.specs.declared.token.Punctuation.TheVariants.{Greater}
use Rattle.parser_base.specs.TokenReading.{after_sign}
use Rattle.parser_base.proofs.ListSteps.{loop_is_over, loop_lacks_item, loop_is_stuck, loop_ends, loop_ends_behind_comma, loop_goes_on, fault_hands_on, IfNoTree-weaker, IfNoTree-always}
use Rattle.parser_base.specs.ParameterReading.{parameter_at}
use Rattle.parser_base.proofs.parameters.read_parameter_list.Goals as goal

pub returns : goal.returns
returns c = loop_is_over (after_sign Greater) (parameter_at c.args.of_struct) _ _ _ _ c.loop.invariant (omega arith)

pub returns-in_err-item : goal.returns-in_err-item
returns-in_err-item c =
    fault_hands_on c.from_residual.result _ _ _ c.from_residual.ensures.1
    (IfNoTree-weaker _ (loop_lacks_item (after_sign Greater) (parameter_at c.args.of_struct) _ _ _ (length c.args.tokens.now - (c.loop.counter + 1)) _ c.loop.invariant (omega arith)) c.in_err-item.ensures)

pub returns-in_err-behind : goal.returns-in_err-behind
returns-in_err-behind c =
    fault_hands_on c.from_residual-in_err-behind.result _ _ _ c.from_residual-in_err-behind.ensures.1
    (IfNoTree-always _ (loop_is_stuck (after_sign Greater) (parameter_at c.args.of_struct) _ _ _ (length c.args.tokens.now - (c.loop.counter + 1)) _ _ _ c.loop.invariant (omega arith) c.in_ok-item.ensures c.in_err-behind.ensures))

pub returns-in-End-default : goal.returns-in-End-default
returns-in-End-default c =
    loop_ends (after_sign Greater) (parameter_at c.args.of_struct) _ _ _ _ (length c.args.tokens.now - (c.loop.counter + 1)) _ _ _ _ _ c.loop.invariant (omega arith) c.in_ok-item.ensures c.in_ok-behind.ensures (search rules) c.in_ok-push.ensures.items

pub returns-in-EndBehindComma-default : goal.returns-in-EndBehindComma-default
returns-in-EndBehindComma-default c =
    loop_ends_behind_comma (after_sign Greater) (parameter_at c.args.of_struct) _ _ _ _ (length c.args.tokens.now - (c.loop.counter + 1)) _ _ _ _ _ c.loop.invariant (omega arith) c.in_ok-item.ensures c.in_ok-behind.ensures (search rules) c.in_ok-push.ensures.items

pub loop-preserved : goal.loop-preserved
loop-preserved c =
    loop_goes_on (after_sign Greater) (parameter_at c.args.of_struct) _ _ _ _ _ _ _ _ _ _ c.loop.invariant (omega arith) c.in_ok-item.ensures c.in_ok-behind.ensures (search rules) c.in_ok-push.ensures.items
