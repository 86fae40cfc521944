use Rattle.std.proofs.Common.{◌≡◌, ◌+◌, ◌*◌, ◌++◌, take}
use Rattle.std.specs.List.{flat_map}
use Rattle.syntax_tree.specs.ExpressionView.{unboxed}
use Rattle.syntax_tree.specs.ExpressionData.{expression_size, maybe_expression_size, expressions_size, block_size, items_size, item_size, field_value_size, field_values_size, expressions_of, items_of, field_values_of, maybe_expression_of}
use Rattle.syntax_tree.specs.ExpressionSpelling.{expression_after_comma, field_value_after_comma, item_spelling}
use Rattle.spelling.proofs.spell_expression.+spell_expression.Given as goal

abbrev pub decreases-spell_expression : goal.decreases-spell_expression
decreases-spell_expression l = 4 * expression_size l.expression.now

abbrev pub decreases-spell_if : goal.decreases-spell_if
decreases-spell_if l = 4 * (expression_size l.condition.now + expression_size l.then_branch.now + maybe_expression_size (maybe_expression_of (unboxed l.else_branch.now))) + 3

abbrev pub decreases-spell_condition : goal.decreases-spell_condition
decreases-spell_condition l = 4 * expression_size l.condition.now + 2

abbrev pub decreases-spell_before : goal.decreases-spell_before
decreases-spell_before l = 4 * expression_size l.expression.now + 1

abbrev pub decreases-spell_listed : goal.decreases-spell_listed
decreases-spell_listed l = 4 * expressions_size (expressions_of l.expressions.now) + 2

abbrev pub decreases-spell_fields : goal.decreases-spell_fields
decreases-spell_fields l = 4 * field_values_size (field_values_of l.fields.now) + 2

abbrev pub decreases-spell_else : goal.decreases-spell_else
decreases-spell_else l = 4 * maybe_expression_size (maybe_expression_of (unboxed l.branch.now))

abbrev pub decreases-spell_returned : goal.decreases-spell_returned
decreases-spell_returned l = 4 * maybe_expression_size (maybe_expression_of (unboxed l.value.now))

abbrev pub decreases-spell_expressions : goal.decreases-spell_expressions
decreases-spell_expressions l = 4 * expressions_size (expressions_of l.expressions.now) + 1

abbrev pub decreases-spell_more_expressions : goal.decreases-spell_more_expressions
decreases-spell_more_expressions l = 4 * expressions_size (expressions_of l.expressions.now)

abbrev pub decreases-spell_field_value : goal.decreases-spell_field_value
decreases-spell_field_value l = 4 * field_value_size l.field.now

abbrev pub decreases-spell_field_values : goal.decreases-spell_field_values
decreases-spell_field_values l = 4 * field_values_size (field_values_of l.fields.now) + 1

abbrev pub decreases-spell_more_field_values : goal.decreases-spell_more_field_values
decreases-spell_more_field_values l = 4 * field_values_size (field_values_of l.fields.now)

abbrev pub decreases-spell_block : goal.decreases-spell_block
decreases-spell_block l = 4 * block_size l.block.now

abbrev pub decreases-spell_value : goal.decreases-spell_value
decreases-spell_value l = 4 * maybe_expression_size (maybe_expression_of l.value.now)

abbrev pub decreases-spell_items : goal.decreases-spell_items
decreases-spell_items l = 4 * items_size (items_of l.items.now)

abbrev pub decreases-spell_item : goal.decreases-spell_item
decreases-spell_item l = 4 * item_size l.item.now

abbrev pub decreases-spell_initial : goal.decreases-spell_initial
decreases-spell_initial l = 4 * maybe_expression_size (maybe_expression_of (unboxed l.value.now))

abbrev pub invariant-spell_more_expressions-loop-one : goal.invariant-spell_more_expressions-loop-one
invariant-spell_more_expressions-loop-one l = l.into ≡ l.initial.into ++ flat_map expression_after_comma (take l.one-index l.expressions)

abbrev pub invariant-spell_more_field_values-loop-one : goal.invariant-spell_more_field_values-loop-one
invariant-spell_more_field_values-loop-one l = l.into ≡ l.initial.into ++ flat_map field_value_after_comma (take l.one-index l.fields)

abbrev pub invariant-spell_items-loop-one : goal.invariant-spell_items-loop-one
invariant-spell_items-loop-one l = l.into ≡ l.initial.into ++ flat_map item_spelling (take l.one-index l.items)
