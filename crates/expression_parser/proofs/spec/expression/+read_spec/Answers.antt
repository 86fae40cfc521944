use Rattle.std.proofs.Common.{arith, rules, length, ◌-◌, ◌+◌, true, false, [], ◌∷◌, ◌++◌, ap, ◌∙◌}
use Rattle.tokens.specs.declared.token.Punctuation.TheVariants.{RightBrace}
use Rattle.parser_base.specs.TokenReading.{after_sign}
use Rattle.parser_base.proofs.ListSteps.{loop_is_over, loop_lacks_item, loop_is_stuck, loop_ends, loop_ends_behind_comma, loop_goes_on, fault_hands_on, IfNoTree-weaker, IfNoTree-always, same_read}
use Rattle.parser_base.specs.TypeReading.{type_at}
use Rattle.expression_parser.specs.LeafReading.{has_postfix}
use Rattle.expression_parser.specs.SpecReading.{spec_at, postfix_at, has_trigger, trigger_at, spec_field_at, bind_at, binds_end}
use Rattle.expression_parser.proofs.Turns.{spec_at-turn, binds_none, binds_some, binds_comma}
use Rattle.parser_base.proofs.ChainSteps.{chain_is_over, chain_ends}
use Rattle.expression_parser.specs.OperatorReading.{spec_joints}
use Rattle.expression_parser.specs.RepeatReading.{repeat_at}
use Rattle.expression_parser.proofs.OperatedSteps.{operated_none, operated_starts, operated_is_stuck, operated_goes_on}
use Rattle.expression_parser.proofs.TriggerSteps.{no_trigger, some_trigger, trigger_none, trigger_some}
use Rattle.expression_parser.proofs.RepeatLemmas.{repeat_is_over, repeat_ends, repeat_is_stuck, repeat_goes_on}
use Rattle.expression_parser.proofs.spec.expression.+read_spec.Goals as goal

pub read_spec-returns : goal.read_spec-returns
read_spec-returns t c = same_read c.read_spec_form.result (λ read. (read.0.value, read.1.now)) _ _ (spec_at-turn _ _ _ _ (omega arith)) c.read_spec_form.ensures

pub read_specs-returns : goal.read_specs-returns
read_specs-returns t c = loop_is_over (after_sign c.args.close) (spec_at c.args.budget true 0) _ _ _ _ c.loop.invariant (omega arith)

pub read_specs-returns-in_err-item : goal.read_specs-returns-in_err-item
read_specs-returns-in_err-item t c =
    fault_hands_on c.from_residual.result _ _ _ c.from_residual.ensures.1
    (IfNoTree-weaker _ (loop_lacks_item (after_sign c.args.close) (spec_at c.args.budget true 0) _ _ _ (length c.args.tokens.now - (c.loop.counter + 1)) _ c.loop.invariant (omega arith)) c.in_err-item.ensures)

pub read_specs-returns-in_err-behind : goal.read_specs-returns-in_err-behind
read_specs-returns-in_err-behind t c =
    fault_hands_on c.from_residual-in_err-behind.result _ _ _ c.from_residual-in_err-behind.ensures.1
    (IfNoTree-always _ (loop_is_stuck (after_sign c.args.close) (spec_at c.args.budget true 0) _ _ _ (length c.args.tokens.now - (c.loop.counter + 1)) _ _ _ c.loop.invariant (omega arith) c.in_ok-item.ensures c.in_err-behind.ensures))

pub read_specs-returns-in-End-default : goal.read_specs-returns-in-End-default
read_specs-returns-in-End-default t c =
    loop_ends (after_sign c.args.close) (spec_at c.args.budget true 0) _ _ _ _ (length c.args.tokens.now - (c.loop.counter + 1)) _ _ _ _ _ c.loop.invariant (omega arith) c.in_ok-item.ensures c.in_ok-behind.ensures (search rules) (c.in_ok-push.ensures.items ∙ ap (λ x. c.loop.items.items ++ x ∷ []) c.into_inner.ensures)

pub read_specs-returns-in-EndBehindComma-default : goal.read_specs-returns-in-EndBehindComma-default
read_specs-returns-in-EndBehindComma-default t c =
    loop_ends_behind_comma (after_sign c.args.close) (spec_at c.args.budget true 0) _ _ _ _ (length c.args.tokens.now - (c.loop.counter + 1)) _ _ _ _ _ c.loop.invariant (omega arith) c.in_ok-item.ensures c.in_ok-behind.ensures (search rules) (c.in_ok-push.ensures.items ∙ ap (λ x. c.loop.items.items ++ x ∷ []) c.into_inner.ensures)

pub read_specs-loop-preserved : goal.read_specs-loop-preserved
read_specs-loop-preserved t c =
    loop_goes_on (after_sign c.args.close) (spec_at c.args.budget true 0) _ _ _ _ _ _ _ _ _ _ c.loop.invariant (omega arith) c.in_ok-item.ensures c.in_ok-behind.ensures (search rules) (c.in_ok-push.ensures.items ∙ ap (λ x. c.loop.items.items ++ x ∷ []) c.into_inner.ensures)

pub read_some_fields-returns : goal.read_some_fields-returns
read_some_fields-returns t c = loop_is_over (after_sign RightBrace) (spec_field_at (spec_at c.args.budget true 0)) _ _ _ _ c.loop.invariant (omega arith)

pub read_some_fields-returns-in_err-item : goal.read_some_fields-returns-in_err-item
read_some_fields-returns-in_err-item t c =
    fault_hands_on c.from_residual.result _ _ _ c.from_residual.ensures.1
    (IfNoTree-weaker _ (loop_lacks_item (after_sign RightBrace) (spec_field_at (spec_at c.args.budget true 0)) _ _ _ (length c.args.tokens.now - (c.loop.counter + 1)) _ c.loop.invariant (omega arith)) c.in_err-item.ensures)

pub read_some_fields-returns-in_err-behind : goal.read_some_fields-returns-in_err-behind
read_some_fields-returns-in_err-behind t c =
    fault_hands_on c.from_residual-in_err-behind.result _ _ _ c.from_residual-in_err-behind.ensures.1
    (IfNoTree-always _ (loop_is_stuck (after_sign RightBrace) (spec_field_at (spec_at c.args.budget true 0)) _ _ _ (length c.args.tokens.now - (c.loop.counter + 1)) _ _ _ c.loop.invariant (omega arith) c.in_ok-item.ensures c.in_err-behind.ensures))

pub read_some_fields-returns-in-End-default : goal.read_some_fields-returns-in-End-default
read_some_fields-returns-in-End-default t c =
    loop_ends (after_sign RightBrace) (spec_field_at (spec_at c.args.budget true 0)) _ _ _ _ (length c.args.tokens.now - (c.loop.counter + 1)) _ _ _ _ _ c.loop.invariant (omega arith) c.in_ok-item.ensures c.in_ok-behind.ensures (search rules) c.in_ok-push.ensures.items

pub read_some_fields-returns-in-EndBehindComma-default : goal.read_some_fields-returns-in-EndBehindComma-default
read_some_fields-returns-in-EndBehindComma-default t c =
    loop_ends_behind_comma (after_sign RightBrace) (spec_field_at (spec_at c.args.budget true 0)) _ _ _ _ (length c.args.tokens.now - (c.loop.counter + 1)) _ _ _ _ _ c.loop.invariant (omega arith) c.in_ok-item.ensures c.in_ok-behind.ensures (search rules) c.in_ok-push.ensures.items

pub read_some_fields-loop-preserved : goal.read_some_fields-loop-preserved
read_some_fields-loop-preserved t c =
    loop_goes_on (after_sign RightBrace) (spec_field_at (spec_at c.args.budget true 0)) _ _ _ _ _ _ _ _ _ _ c.loop.invariant (omega arith) c.in_ok-item.ensures c.in_ok-behind.ensures (search rules) c.in_ok-push.ensures.items

pub read_binds-returns : goal.read_binds-returns
read_binds-returns t c = binds_none _ _ _ (loop_is_over binds_end (bind_at (type_at c.args.budget) (spec_at c.args.budget false 0)) _ _ _ _ c.loop.invariant (omega arith))

pub read_binds-returns-in_err-bind : goal.read_binds-returns-in_err-bind
read_binds-returns-in_err-bind t c =
    fault_hands_on c.from_residual.result _ _ _ c.from_residual.ensures.1
    (IfNoTree-weaker _ (λ e. binds_none _ _ _ (loop_lacks_item binds_end (bind_at (type_at c.args.budget) (spec_at c.args.budget false 0)) _ _ _ (length c.args.tokens.now - (c.loop.counter + 1)) _ c.loop.invariant (omega arith) e)) c.in_err-bind.ensures)

pub read_binds-returns-in_err-behind : goal.read_binds-returns-in_err-behind
read_binds-returns-in_err-behind t c =
    fault_hands_on c.from_residual-in_err-behind.result _ _ _ c.from_residual-in_err-behind.ensures.1
    (IfNoTree-always _ (binds_none _ _ _ (loop_is_stuck binds_end (bind_at (type_at c.args.budget) (spec_at c.args.budget false 0)) _ _ _ (length c.args.tokens.now - (c.loop.counter + 1)) _ _ _ c.loop.invariant (omega arith) c.in_ok-bind.ensures c.in_err-behind.ensures)))

pub read_binds-returns-in-End-default : goal.read_binds-returns-in-End-default
read_binds-returns-in-End-default t c =
    binds_some _ _ _ _ _ (loop_ends binds_end (bind_at (type_at c.args.budget) (spec_at c.args.budget false 0)) _ _ _ _ (length c.args.tokens.now - (c.loop.counter + 1)) _ _ _ _ _ c.loop.invariant (omega arith) c.in_ok-bind.ensures c.in_ok-behind.ensures (search rules) c.in_ok-push.ensures.items)

pub read_binds-returns-in-EndBehindComma-default : goal.read_binds-returns-in-EndBehindComma-default
read_binds-returns-in-EndBehindComma-default t c =
    binds_comma _ _ _ _ _ (loop_ends_behind_comma binds_end (bind_at (type_at c.args.budget) (spec_at c.args.budget false 0)) _ _ _ _ (length c.args.tokens.now - (c.loop.counter + 1)) _ _ _ _ _ c.loop.invariant (omega arith) c.in_ok-bind.ensures c.in_ok-behind.ensures (search rules) c.in_ok-push.ensures.items)

pub read_binds-loop-preserved : goal.read_binds-loop-preserved
read_binds-loop-preserved t c =
    loop_goes_on binds_end (bind_at (type_at c.args.budget) (spec_at c.args.budget false 0)) _ _ _ _ _ _ _ _ _ _ c.loop.invariant (omega arith) c.in_ok-bind.ensures c.in_ok-behind.ensures (search rules) c.in_ok-push.ensures.items

pub read_postfixes-returns : goal.read_postfixes-returns
read_postfixes-returns t c = repeat_is_over has_postfix (postfix_at (spec_at c.args.budget true 0)) _ _ _ _ c.loop.invariant (omega arith)

pub read_postfixes-returns-then-not-has_postfix : goal.read_postfixes-returns-then-not-has_postfix
read_postfixes-returns-then-not-has_postfix t c =
    repeat_ends has_postfix (postfix_at (spec_at c.args.budget true 0)) _ _ (length c.args.tokens.now + 1 - (c.loop.counter + 1)) _ _ c.loop.invariant (omega arith) (search rules)

pub read_postfixes-returns-in_err-longer : goal.read_postfixes-returns-in_err-longer
read_postfixes-returns-in_err-longer t c =
    fault_hands_on c.from_residual.result _ _ _ c.from_residual.ensures.1
    (IfNoTree-weaker _ (repeat_is_stuck has_postfix (postfix_at (spec_at c.args.budget true 0)) _ _ (length c.args.tokens.now + 1 - (c.loop.counter + 1)) _ _ c.loop.invariant (omega arith) (search rules)) c.in_err-longer.ensures)

pub read_postfixes-loop-preserved : goal.read_postfixes-loop-preserved
read_postfixes-loop-preserved t c =
    repeat_goes_on has_postfix (postfix_at (spec_at c.args.budget true 0)) _ _ _ _ _ _ _ c.loop.invariant (omega arith) (search rules) c.in_ok-longer.ensures

pub read_operated-returns-in_err-first : goal.read_operated-returns-in_err-first
read_operated-returns-in_err-first t c = fault_hands_on c.from_residual.result _ _ _ c.from_residual.ensures.1 (IfNoTree-weaker _ (operated_none (type_at c.args.budget) (spec_at c.args.budget) c.args.packs c.args.minimum _) c.in_err-first.ensures)

pub read_operated-loop-init : goal.read_operated-loop-init
read_operated-loop-init t c = operated_starts (type_at c.args.budget) (spec_at c.args.budget) c.args.packs c.args.minimum _ _ _ _ c.in_ok-first.ensures (omega arith)

pub read_operated-returns-in_default : goal.read_operated-returns-in_default
read_operated-returns-in_default t c = chain_ends spec_joints (spec_at c.args.budget c.args.packs) c.args.minimum _ _ (length c.in_ok-first.behind.now + 1 - (c.loop.counter + 1)) _ _ c.loop.invariant (omega arith) (search rules)

pub read_operated-returns-in_err-right : goal.read_operated-returns-in_err-right
read_operated-returns-in_err-right t c =
    fault_hands_on c.from_residual-in_err-right.result _ _ _ c.from_residual-in_err-right.ensures.1
    (IfNoTree-weaker _ (operated_is_stuck (type_at c.args.budget) (spec_at c.args.budget) c.args.packs c.args.minimum _ _ (length c.in_ok-first.behind.now + 1 - (c.loop.counter + 1)) _ _ c.in-Some.inside.now c.in-Some.operator c.in-Some.span _ c.loop.invariant (omega arith) (search rules) c.right_level.ensures) c.in_err-right.ensures)

pub read_operated-loop-preserved : goal.read_operated-loop-preserved
read_operated-loop-preserved t c =
    operated_goes_on (type_at c.args.budget) (spec_at c.args.budget) c.args.packs c.args.minimum _ _ _ _ _ _ _ _ _ _ _ _ c.loop.invariant (omega arith) (search rules) c.right_level.ensures c.in_ok-right.ensures c.in_ok-whole.ensures

pub read_operated-returns : goal.read_operated-returns
read_operated-returns t c = chain_is_over spec_joints (spec_at c.args.budget c.args.packs) c.args.minimum _ _ _ _ c.loop.invariant (omega arith)

pub read_triggers-returns-in_default : goal.read_triggers-returns-in_default
read_triggers-returns-in_default t c = repeat_ends has_trigger (trigger_at (spec_at c.args.budget true 0)) _ _ (length c.args.tokens.now + 1 - (c.loop.counter + 1)) _ _ c.loop.invariant (omega arith) (no_trigger _ (search rules))

pub read_triggers-returns-in_err-items : goal.read_triggers-returns-in_err-items
read_triggers-returns-in_err-items t c =
    fault_hands_on c.from_residual.result _ _ _ c.from_residual.ensures.1
    (IfNoTree-weaker _ (λ e. repeat_is_stuck has_trigger (trigger_at (spec_at c.args.budget true 0)) _ _ (length c.args.tokens.now + 1 - (c.loop.counter + 1)) _ _ c.loop.invariant (omega arith) (some_trigger _ c.in-Some.inside.now (search rules)) (trigger_none (spec_at c.args.budget true 0) _ _ c.in-Some.inside.now (search rules) e)) c.in_err-items.ensures)

pub read_triggers-loop-preserved : goal.read_triggers-loop-preserved
read_triggers-loop-preserved t c =
    repeat_goes_on has_trigger (trigger_at (spec_at c.args.budget true 0)) _ _ _ _ _ _ _ c.loop.invariant (omega arith) (some_trigger _ c.in-Some.inside.now (search rules)) (trigger_some (spec_at c.args.budget true 0) _ _ _ c.in-Some.inside.now _ _ _ (search rules) c.in_ok-items.ensures c.in_ok-push.ensures.items)

pub read_triggers-returns : goal.read_triggers-returns
read_triggers-returns t c = repeat_is_over has_trigger (trigger_at (spec_at c.args.budget true 0)) _ _ _ _ c.loop.invariant (omega arith)

pub read_postfixes-loop-init : goal.read_postfixes-loop-init
read_postfixes-loop-init t c = ap (λ k. repeat_at has_postfix (postfix_at (spec_at c.args.budget true 0)) k c.args.base.value c.args.tokens.now) (omega arith)
