use Rattle.std.proofs.Common.{arith, rules, length, ◌-◌, ◌+◌}
use Rattle.tokens.specs.declared.token.Punctuation.TheVariants.{RightParenthesis, RightBrace}
use Rattle.parser_base.specs.TokenReading.{after_sign}
use Rattle.parser_base.proofs.ListSteps.{loop_is_over, loop_lacks_item, loop_is_stuck, loop_ends, loop_ends_behind_comma, loop_goes_on, fault_hands_on, IfNoTree-weaker, IfNoTree-always, same_read}
use Rattle.parser_base.specs.PatternReading.{pattern_at, field_pattern_at}
use Rattle.parser_base.proofs.Turns.{pattern_at-turn}
use Rattle.parser_base.proofs.pattern.+read_pattern.Goals as goal

pub read_pattern-returns : goal.read_pattern-returns
read_pattern-returns t c = same_read c.read_pattern_form.result (λ read. (read.0, read.1.now)) _ _ (pattern_at-turn _ _ (omega arith)) c.read_pattern_form.ensures

pub read_patterns-returns : goal.read_patterns-returns
read_patterns-returns t c = loop_is_over (after_sign RightParenthesis) (pattern_at c.args.budget) _ _ _ _ c.loop.invariant (omega arith)

pub read_patterns-returns-in_err-item : goal.read_patterns-returns-in_err-item
read_patterns-returns-in_err-item t c =
    fault_hands_on c.from_residual.result _ _ _ c.from_residual.ensures.1
    (IfNoTree-weaker _ (loop_lacks_item (after_sign RightParenthesis) (pattern_at c.args.budget) _ _ _ (length c.args.tokens.now - (c.loop.counter + 1)) _ c.loop.invariant (omega arith)) c.in_err-item.ensures)

pub read_patterns-returns-in_err-behind : goal.read_patterns-returns-in_err-behind
read_patterns-returns-in_err-behind t c =
    fault_hands_on c.from_residual-in_err-behind.result _ _ _ c.from_residual-in_err-behind.ensures.1
    (IfNoTree-always _ (loop_is_stuck (after_sign RightParenthesis) (pattern_at c.args.budget) _ _ _ (length c.args.tokens.now - (c.loop.counter + 1)) _ _ _ c.loop.invariant (omega arith) c.in_ok-item.ensures c.in_err-behind.ensures))

pub read_patterns-returns-in-End-default : goal.read_patterns-returns-in-End-default
read_patterns-returns-in-End-default t c =
    loop_ends (after_sign RightParenthesis) (pattern_at c.args.budget) _ _ _ _ (length c.args.tokens.now - (c.loop.counter + 1)) _ _ _ _ _ c.loop.invariant (omega arith) c.in_ok-item.ensures c.in_ok-behind.ensures (search rules) c.in_ok-push.ensures.items

pub read_patterns-returns-in-EndBehindComma-default : goal.read_patterns-returns-in-EndBehindComma-default
read_patterns-returns-in-EndBehindComma-default t c =
    loop_ends_behind_comma (after_sign RightParenthesis) (pattern_at c.args.budget) _ _ _ _ (length c.args.tokens.now - (c.loop.counter + 1)) _ _ _ _ _ c.loop.invariant (omega arith) c.in_ok-item.ensures c.in_ok-behind.ensures (search rules) c.in_ok-push.ensures.items

pub read_patterns-loop-preserved : goal.read_patterns-loop-preserved
read_patterns-loop-preserved t c =
    loop_goes_on (after_sign RightParenthesis) (pattern_at c.args.budget) _ _ _ _ _ _ _ _ _ _ c.loop.invariant (omega arith) c.in_ok-item.ensures c.in_ok-behind.ensures (search rules) c.in_ok-push.ensures.items

pub read_some_field_patterns-returns : goal.read_some_field_patterns-returns
read_some_field_patterns-returns t c = loop_is_over (after_sign RightBrace) (field_pattern_at (pattern_at c.args.budget)) _ _ _ _ c.loop.invariant (omega arith)

pub read_some_field_patterns-returns-in_err-item : goal.read_some_field_patterns-returns-in_err-item
read_some_field_patterns-returns-in_err-item t c =
    fault_hands_on c.from_residual.result _ _ _ c.from_residual.ensures.1
    (IfNoTree-weaker _ (loop_lacks_item (after_sign RightBrace) (field_pattern_at (pattern_at c.args.budget)) _ _ _ (length c.args.tokens.now - (c.loop.counter + 1)) _ c.loop.invariant (omega arith)) c.in_err-item.ensures)

pub read_some_field_patterns-returns-in_err-behind : goal.read_some_field_patterns-returns-in_err-behind
read_some_field_patterns-returns-in_err-behind t c =
    fault_hands_on c.from_residual-in_err-behind.result _ _ _ c.from_residual-in_err-behind.ensures.1
    (IfNoTree-always _ (loop_is_stuck (after_sign RightBrace) (field_pattern_at (pattern_at c.args.budget)) _ _ _ (length c.args.tokens.now - (c.loop.counter + 1)) _ _ _ c.loop.invariant (omega arith) c.in_ok-item.ensures c.in_err-behind.ensures))

pub read_some_field_patterns-returns-in-End-default : goal.read_some_field_patterns-returns-in-End-default
read_some_field_patterns-returns-in-End-default t c =
    loop_ends (after_sign RightBrace) (field_pattern_at (pattern_at c.args.budget)) _ _ _ _ (length c.args.tokens.now - (c.loop.counter + 1)) _ _ _ _ _ c.loop.invariant (omega arith) c.in_ok-item.ensures c.in_ok-behind.ensures (search rules) c.in_ok-push.ensures.items

pub read_some_field_patterns-returns-in-EndBehindComma-default : goal.read_some_field_patterns-returns-in-EndBehindComma-default
read_some_field_patterns-returns-in-EndBehindComma-default t c =
    loop_ends_behind_comma (after_sign RightBrace) (field_pattern_at (pattern_at c.args.budget)) _ _ _ _ (length c.args.tokens.now - (c.loop.counter + 1)) _ _ _ _ _ c.loop.invariant (omega arith) c.in_ok-item.ensures c.in_ok-behind.ensures (search rules) c.in_ok-push.ensures.items

pub read_some_field_patterns-loop-preserved : goal.read_some_field_patterns-loop-preserved
read_some_field_patterns-loop-preserved t c =
    loop_goes_on (after_sign RightBrace) (field_pattern_at (pattern_at c.args.budget)) _ _ _ _ _ _ _ _ _ _ c.loop.invariant (omega arith) c.in_ok-item.ensures c.in_ok-behind.ensures (search rules) c.in_ok-push.ensures.items
