use Rattle.std.proofs.Common.{◌++◌, ◌∙◌, ap}
use Rattle.spelling.proofs.SpecCommas.{triggers_taken, spec_expressions_comma_list, binds_comma_list, spec_fields_comma_list}
use Rattle.spelling.proofs.Steps.{three_parts}
use Rattle.spelling.proofs.spell_spec_expression.+spell_spec.Goals as goal

pub spell_triggers-returns : goal.spell_triggers-returns
spell_triggers-returns t c = c.loop-one.invariant ∙ ap (λ more. c.args.into.now ++ more) (triggers_taken c.args.triggers.now c.loop-one.one-index c.loop-one-test.false)

pub spell_spec_expressions-returns : goal.spell_spec_expressions-returns
spell_spec_expressions-returns t c =
    three_parts _ _ _ _ c.in_ok-spell_spec_expression.ensures c.in_ok-spell_more_spec_expressions.ensures c.in_ok-push_last_comma.ensures (spec_expressions_comma_list c.args.expressions.now c.in-Some.first.now c.in-Some.rest.now c.args.last_comma c.in-Some.ensures.cases.0)

pub spell_binds-returns : goal.spell_binds-returns
spell_binds-returns t c =
    three_parts _ _ _ _ c.in_ok-spell_bind.ensures c.in_ok-spell_more_binds.ensures c.in_ok-push_last_comma.ensures (binds_comma_list c.args.binds.now c.in-Some.first.now c.in-Some.rest.now c.args.last_comma c.in-Some.ensures.cases.0)

pub spell_spec_fields-returns : goal.spell_spec_fields-returns
spell_spec_fields-returns t c =
    three_parts _ _ _ _ c.in_ok-spell_spec_field.ensures c.in_ok-spell_more_spec_fields.ensures c.in_ok-push_last_comma.ensures (spec_fields_comma_list c.args.fields.now c.in-Some.first.now c.in-Some.rest.now c.args.last_comma c.in-Some.ensures.cases.0)
