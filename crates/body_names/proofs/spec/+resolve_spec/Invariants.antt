use Rattle.std.proofs.Common.{◌≡◌, ◌*◌, ◌+◌, ◌++◌, length, drop}
use Rattle.syntax_tree.specs.SpecExpressionData.{spec_expression_size, spec_expressions_size, spec_fields_size, spec_field_size, binds_size, bind_size, triggers_size, trigger_size, spec_expressions_of, spec_fields_of, binds_of, triggers_of}
use Rattle.body_names.specs.SpecNames.{entered_by_all}
use Rattle.body_names.specs.SpecTrees.{binds_in}
use Rattle.body_names.specs.SpecSetting.{setting}
use Rattle.body_names.proofs.SpecRemainsLaws.{RemainsOf}
use Rattle.body_names.proofs.Listings.{value_listing, field_listing, trigger_listing, bind_listing}
use Rattle.body_names.proofs.spec.+resolve_spec.Given as goal

abbrev pub decreases-resolve_spec : goal.decreases-resolve_spec
decreases-resolve_spec l = 8 * spec_expression_size l.expression.now

abbrev pub decreases-resolve_one : goal.decreases-resolve_one
decreases-resolve_one l = 8 * spec_expression_size l.part.now + 1

abbrev pub decreases-resolve_two : goal.decreases-resolve_two
decreases-resolve_two l = 8 * (spec_expression_size l.left.now + spec_expression_size l.right.now) + 1

abbrev pub decreases-resolve_branches : goal.decreases-resolve_branches
decreases-resolve_branches l = 8 * (spec_expression_size l.condition.now + spec_expression_size l.then_branch.now + spec_expression_size l.else_branch.now) + 1

abbrev pub decreases-resolve_call : goal.decreases-resolve_call
decreases-resolve_call l = 8 * spec_expressions_size (spec_expressions_of l.values.now) + 1

abbrev pub decreases-resolve_values : goal.decreases-resolve_values
decreases-resolve_values l = 8 * spec_expressions_size (spec_expressions_of l.values.now)

abbrev pub decreases-resolve_part : goal.decreases-resolve_part
decreases-resolve_part l = 8 * spec_expression_size l.value.now + 1

abbrev pub decreases-resolve_pack : goal.decreases-resolve_pack
decreases-resolve_pack l = 8 * spec_fields_size (spec_fields_of l.fields.now) + 1

abbrev pub decreases-resolve_fields : goal.decreases-resolve_fields
decreases-resolve_fields l = 8 * spec_fields_size (spec_fields_of l.fields.now)

abbrev pub decreases-resolve_field_part : goal.decreases-resolve_field_part
decreases-resolve_field_part l = 8 * spec_field_size l.field.now + 1

abbrev pub decreases-resolve_field : goal.decreases-resolve_field
decreases-resolve_field l = 8 * spec_field_size l.field.now

abbrev pub decreases-resolve_quantified : goal.decreases-resolve_quantified
decreases-resolve_quantified l = 8 * (binds_size (binds_of l.binds.now) + triggers_size (triggers_of l.triggers.now) + spec_expression_size l.body.now) + 4

abbrev pub decreases-resolve_parts : goal.decreases-resolve_parts
decreases-resolve_parts l = 8 * (binds_size (binds_of l.binds.now) + triggers_size (triggers_of l.triggers.now) + spec_expression_size l.body.now) + 3

abbrev pub decreases-resolve_ranges : goal.decreases-resolve_ranges
decreases-resolve_ranges l = 8 * (binds_size (binds_of l.binds.now) + triggers_size (triggers_of l.triggers.now)) + 2

abbrev pub decreases-resolve_binds : goal.decreases-resolve_binds
decreases-resolve_binds l = 8 * binds_size (binds_of l.binds.now)

abbrev pub decreases-resolve_bind : goal.decreases-resolve_bind
decreases-resolve_bind l = 8 * bind_size l.bind.now

abbrev pub decreases-resolve_range : goal.decreases-resolve_range
decreases-resolve_range l = 8 * spec_expression_size l.range.now + 2

abbrev pub decreases-resolve_triggers : goal.decreases-resolve_triggers
decreases-resolve_triggers l = 8 * triggers_size (triggers_of l.triggers.now)

abbrev pub decreases-resolve_trigger : goal.decreases-resolve_trigger
decreases-resolve_trigger l = 8 * trigger_size l.trigger.now

abbrev pub invariant-resolve_values-loop-value : goal.invariant-resolve_values-loop-value
invariant-resolve_values-loop-value l = record {
  remains : RemainsOf (value_listing (setting l.context) l.initial.into.scope) (length l.initial.into.variables) (length l.into.variables) l.values (drop l.value-index l.values) l.initial.into l.into l.initial.parts l.parts;
  scope : l.into.scope ≡ l.initial.into.scope;
}

abbrev pub invariant-resolve_fields-loop-field : goal.invariant-resolve_fields-loop-field
invariant-resolve_fields-loop-field l = record {
  remains : RemainsOf (field_listing (setting l.context) l.initial.into.scope) (length l.initial.into.variables) (length l.into.variables) l.fields (drop l.field-index l.fields) l.initial.into l.into l.initial.parts l.parts;
  scope : l.into.scope ≡ l.initial.into.scope;
}

abbrev pub invariant-resolve_triggers-loop-trigger : goal.invariant-resolve_triggers-loop-trigger
invariant-resolve_triggers-loop-trigger l = record {
  remains : RemainsOf (trigger_listing (setting l.context) l.initial.into.scope) (length l.initial.into.variables) (length l.into.variables) l.triggers (drop l.trigger-index l.triggers) l.initial.into l.into l.initial.parts l.parts;
  scope : l.into.scope ≡ l.initial.into.scope;
}

abbrev pub invariant-resolve_binds-loop-bind : goal.invariant-resolve_binds-loop-bind
invariant-resolve_binds-loop-bind l = record {
  remains : RemainsOf (bind_listing (setting l.context)) (record { scope = l.initial.into.scope; count = length l.initial.into.variables }) (record { scope = l.into.scope; count = length l.into.variables }) l.binds (drop l.bind-index l.binds) l.initial.into l.into l.initial.parts l.parts;
  scope : l.initial.into.scope ++ entered_by_all (length l.initial.into.variables) (binds_of l.binds) ≡ l.into.scope ++ entered_by_all (length l.into.variables) (binds_of (drop l.bind-index l.binds));
  bound : binds_in (setting l.context).types (length l.initial.into.variables) (binds_of l.binds) ≡ l.bound ++ binds_in (setting l.context).types (length l.into.variables) (binds_of (drop l.bind-index l.binds));
}
