use Rattle.std.proofs.Common.{◌≡◌, ◌+◌, ◌*◌, ◌++◌, take}
use Rattle.std.specs.List.{flat_map}
use Rattle.syntax_tree.specs.SpecExpressionData.{spec_expression_size, spec_expressions_size, spec_expressions_of, bind_size, binds_size, binds_of, trigger_size, triggers_size, triggers_of, spec_field_size, spec_fields_size, spec_fields_of}
use Rattle.syntax_tree.specs.SpecExpressionSpelling.{spec_after_comma, bind_after_comma, spec_field_after_comma, trigger_spelling}
use Rattle.spelling.proofs.spell_spec_expression.+spell_spec.Given as goal

abbrev pub decreases-spell_spec_expression : goal.decreases-spell_spec_expression
decreases-spell_spec_expression l = 4 * spec_expression_size l.expression.now

abbrev pub decreases-spell_condition : goal.decreases-spell_condition
decreases-spell_condition l = 4 * spec_expression_size l.condition.now + 1

abbrev pub decreases-spell_bind : goal.decreases-spell_bind
decreases-spell_bind l = 4 * bind_size l.bind.now

abbrev pub decreases-spell_trigger : goal.decreases-spell_trigger
decreases-spell_trigger l = 4 * trigger_size l.trigger.now

abbrev pub decreases-spell_triggers : goal.decreases-spell_triggers
decreases-spell_triggers l = 4 * triggers_size (triggers_of l.triggers.now)

abbrev pub decreases-spell_spec_field : goal.decreases-spell_spec_field
decreases-spell_spec_field l = 4 * spec_field_size l.field.now

abbrev pub decreases-spell_spec_expressions : goal.decreases-spell_spec_expressions
decreases-spell_spec_expressions l = 4 * spec_expressions_size (spec_expressions_of l.expressions.now) + 1

abbrev pub decreases-spell_more_spec_expressions : goal.decreases-spell_more_spec_expressions
decreases-spell_more_spec_expressions l = 4 * spec_expressions_size (spec_expressions_of l.expressions.now)

abbrev pub decreases-spell_binds : goal.decreases-spell_binds
decreases-spell_binds l = 4 * binds_size (binds_of l.binds.now) + 1

abbrev pub decreases-spell_more_binds : goal.decreases-spell_more_binds
decreases-spell_more_binds l = 4 * binds_size (binds_of l.binds.now)

abbrev pub decreases-spell_spec_fields : goal.decreases-spell_spec_fields
decreases-spell_spec_fields l = 4 * spec_fields_size (spec_fields_of l.fields.now) + 1

abbrev pub decreases-spell_more_spec_fields : goal.decreases-spell_more_spec_fields
decreases-spell_more_spec_fields l = 4 * spec_fields_size (spec_fields_of l.fields.now)

abbrev pub invariant-spell_triggers-loop-one : goal.invariant-spell_triggers-loop-one
invariant-spell_triggers-loop-one l = l.into ≡ l.initial.into ++ flat_map trigger_spelling (take l.one-index l.triggers)

abbrev pub invariant-spell_more_spec_expressions-loop-one : goal.invariant-spell_more_spec_expressions-loop-one
invariant-spell_more_spec_expressions-loop-one l = l.into ≡ l.initial.into ++ flat_map spec_after_comma (take l.one-index l.expressions)

abbrev pub invariant-spell_more_binds-loop-one : goal.invariant-spell_more_binds-loop-one
invariant-spell_more_binds-loop-one l = l.into ≡ l.initial.into ++ flat_map bind_after_comma (take l.one-index l.binds)

abbrev pub invariant-spell_more_spec_fields-loop-one : goal.invariant-spell_more_spec_fields-loop-one
invariant-spell_more_spec_fields-loop-one l = l.into ≡ l.initial.into ++ flat_map spec_field_after_comma (take l.one-index l.fields)
