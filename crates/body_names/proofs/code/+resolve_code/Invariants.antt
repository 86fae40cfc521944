use Rattle.std.proofs.Common.{◌≡◌, ◌*◌, ◌+◌, ◌++◌, length, drop}
use Rattle.syntax_tree.specs.ExpressionView.{unboxed}
use Rattle.syntax_tree.specs.ExpressionData.{expression_size, maybe_expression_size, expressions_size, block_size, items_size, item_size, field_value_size, field_values_size, expressions_of, items_of, field_values_of, maybe_expression_of}
use Rattle.body_names.specs.CodeNames.{entered_by_all}
use Rattle.body_names.specs.CodeSetting.{setting}
use Rattle.body_names.proofs.CodeRemainsLaws.{RemainsOf, before_of}
use Rattle.body_names.proofs.CodeListings.{code_listing, field_listing, item_listing}
use Rattle.body_names.proofs.code.+resolve_code.Given as goal

abbrev pub decreases-resolve_code : goal.decreases-resolve_code
decreases-resolve_code l = 4 * expression_size l.expression.now

abbrev pub decreases-resolve_one : goal.decreases-resolve_one
decreases-resolve_one l = 4 * expression_size l.part.now + 1

abbrev pub decreases-resolve_two : goal.decreases-resolve_two
decreases-resolve_two l = 4 * (expression_size l.left.now + expression_size l.right.now) + 1

abbrev pub decreases-resolve_if : goal.decreases-resolve_if
decreases-resolve_if l = 4 * (expression_size l.condition.now + expression_size l.then_branch.now + maybe_expression_size (maybe_expression_of (unboxed l.else_branch.now))) + 3

abbrev pub decreases-resolve_plain_if : goal.decreases-resolve_plain_if
decreases-resolve_plain_if l = 4 * (expression_size l.condition.now + expression_size l.then_branch.now) + 2

abbrev pub decreases-resolve_branches : goal.decreases-resolve_branches
decreases-resolve_branches l = 4 * (expression_size l.condition.now + expression_size l.then_branch.now + expression_size l.else_branch.now) + 1

abbrev pub decreases-resolve_while : goal.decreases-resolve_while
decreases-resolve_while l = 4 * (expression_size l.condition.now + expression_size l.body.now) + 2

abbrev pub decreases-resolve_loop : goal.decreases-resolve_loop
decreases-resolve_loop l = 4 * expression_size l.body.now + 2

abbrev pub decreases-resolve_return : goal.decreases-resolve_return
decreases-resolve_return l = 4 * maybe_expression_size (maybe_expression_of (unboxed l.value.now)) + 1

abbrev pub decreases-resolve_many : goal.decreases-resolve_many
decreases-resolve_many l = 4 * expressions_size (expressions_of l.values.now) + 1

abbrev pub decreases-resolve_tuple : goal.decreases-resolve_tuple
decreases-resolve_tuple l = 4 * expressions_size (expressions_of l.items.now) + 1

abbrev pub decreases-resolve_values : goal.decreases-resolve_values
decreases-resolve_values l = 4 * expressions_size (expressions_of l.values.now)

abbrev pub decreases-resolve_pack : goal.decreases-resolve_pack
decreases-resolve_pack l = 4 * field_values_size (field_values_of l.fields.now) + 1

abbrev pub decreases-resolve_fields : goal.decreases-resolve_fields
decreases-resolve_fields l = 4 * field_values_size (field_values_of l.fields.now)

abbrev pub decreases-resolve_field : goal.decreases-resolve_field
decreases-resolve_field l = 4 * field_value_size l.field.now

abbrev pub decreases-resolve_block : goal.decreases-resolve_block
decreases-resolve_block l = 4 * block_size l.block.now

abbrev pub decreases-resolve_parts : goal.decreases-resolve_parts
decreases-resolve_parts l = 4 * (items_size (items_of l.items.now) + maybe_expression_size (maybe_expression_of l.value.now)) + 1

abbrev pub decreases-resolve_items : goal.decreases-resolve_items
decreases-resolve_items l = 4 * items_size (items_of l.items.now)

abbrev pub decreases-resolve_item : goal.decreases-resolve_item
decreases-resolve_item l = 4 * item_size l.item.now

abbrev pub decreases-resolve_discard : goal.decreases-resolve_discard
decreases-resolve_discard l = 4 * expression_size l.expression.now + 2

abbrev pub decreases-resolve_let : goal.decreases-resolve_let
decreases-resolve_let l = 4 * maybe_expression_size (maybe_expression_of (unboxed l.value.now)) + 3

abbrev pub decreases-resolve_bound : goal.decreases-resolve_bound
decreases-resolve_bound l = 4 * maybe_expression_size (maybe_expression_of (unboxed l.value.now)) + 2

abbrev pub decreases-resolve_binding : goal.decreases-resolve_binding
decreases-resolve_binding l = 4 * expression_size l.value.now + 1

abbrev pub invariant-resolve_values-loop-value : goal.invariant-resolve_values-loop-value
invariant-resolve_values-loop-value l = record {
  remains : RemainsOf (code_listing (setting l.context)) (before_of l.initial.into.scope l.initial.into) (before_of l.initial.into.scope l.into) l.values (drop l.value-index l.values) l.initial.into l.into l.parts;
  scope : l.into.scope ≡ l.initial.into.scope;
}

abbrev pub invariant-resolve_fields-loop-field : goal.invariant-resolve_fields-loop-field
invariant-resolve_fields-loop-field l = record {
  remains : RemainsOf (field_listing (setting l.context)) (before_of l.initial.into.scope l.initial.into) (before_of l.initial.into.scope l.into) l.fields (drop l.field-index l.fields) l.initial.into l.into l.parts;
  scope : l.into.scope ≡ l.initial.into.scope;
}

abbrev pub invariant-resolve_items-loop-item : goal.invariant-resolve_items-loop-item
invariant-resolve_items-loop-item l = record {
  remains : RemainsOf (item_listing (setting l.context)) (before_of l.initial.into.scope l.initial.into) (before_of l.into.scope l.into) l.items (drop l.item-index l.items) l.initial.into l.into l.parts;
  scope : l.initial.into.scope ++ entered_by_all (length l.initial.into.locals) (items_of l.items) ≡ l.into.scope ++ entered_by_all (length l.into.locals) (items_of (drop l.item-index l.items));
}
