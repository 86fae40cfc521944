use Rattle.std.proofs.Common.{◌≡◌, ◌*◌, ◌++◌, take}
use Rattle.std.specs.List.{flat_map}
use Rattle.syntax_tree.specs.ExpressionView.{unboxed}
use Rattle.syntax_tree.specs.ExpressionData.{expression_size, maybe_expression_size, expressions_size, block_size, items_size, item_size, field_value_size, field_values_size, expressions_of, items_of, field_values_of, maybe_expression_of}
use Rattle.syntax_tree.specs.Blocks.{blocks_of, blocks_of_item, blocks_of_field}
use Rattle.syntax_tree.proofs.source.collect.+collect_blocks.Given as goal

abbrev pub decreases-collect_from_expression : goal.decreases-collect_from_expression
decreases-collect_from_expression l = 4 * expression_size l.expression.now

abbrev pub decreases-collect_from_boxed : goal.decreases-collect_from_boxed
decreases-collect_from_boxed l = 4 * maybe_expression_size (maybe_expression_of (unboxed l.value.now))

abbrev pub decreases-collect_from_value : goal.decreases-collect_from_value
decreases-collect_from_value l = 4 * maybe_expression_size (maybe_expression_of l.value.now)

abbrev pub decreases-collect_from_expressions : goal.decreases-collect_from_expressions
decreases-collect_from_expressions l = 4 * expressions_size (expressions_of l.expressions.now)

abbrev pub decreases-collect_from_field : goal.decreases-collect_from_field
decreases-collect_from_field l = 4 * field_value_size l.field.now

abbrev pub decreases-collect_from_fields : goal.decreases-collect_from_fields
decreases-collect_from_fields l = 4 * field_values_size (field_values_of l.fields.now)

abbrev pub decreases-collect_from_block : goal.decreases-collect_from_block
decreases-collect_from_block l = 4 * block_size l.block.now

abbrev pub decreases-collect_from_items : goal.decreases-collect_from_items
decreases-collect_from_items l = 4 * items_size (items_of l.items.now)

abbrev pub decreases-collect_from_item : goal.decreases-collect_from_item
decreases-collect_from_item l = 4 * item_size l.item.now

abbrev pub invariant-collect_from_expressions-loop-one : goal.invariant-collect_from_expressions-loop-one
invariant-collect_from_expressions-loop-one l = l.into ≡ l.initial.into ++ flat_map blocks_of (take l.one-index l.expressions)

abbrev pub invariant-collect_from_fields-loop-one : goal.invariant-collect_from_fields-loop-one
invariant-collect_from_fields-loop-one l = l.into ≡ l.initial.into ++ flat_map blocks_of_field (take l.one-index l.fields)

abbrev pub invariant-collect_from_items-loop-one : goal.invariant-collect_from_items-loop-one
invariant-collect_from_items-loop-one l = l.into ≡ l.initial.into ++ flat_map blocks_of_item (take l.one-index l.items)
