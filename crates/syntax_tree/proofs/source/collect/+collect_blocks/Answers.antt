use Rattle.std.proofs.Common.{◌++◌, ◌∙◌, ap}
use Rattle.syntax_tree.proofs.Taken.{expressions_taken, items_taken, fields_taken}
use Rattle.syntax_tree.proofs.source.collect.+collect_blocks.Goals as goal

pub collect_from_expressions-returns : goal.collect_from_expressions-returns
collect_from_expressions-returns t c = c.loop-one.invariant ∙ ap (λ more. c.args.into.now ++ more) (expressions_taken c.args.expressions.now c.loop-one.one-index c.loop-one-test.false)

pub collect_from_items-returns : goal.collect_from_items-returns
collect_from_items-returns t c = c.loop-one.invariant ∙ ap (λ more. c.args.into.now ++ more) (items_taken c.args.items.now c.loop-one.one-index c.loop-one-test.false)

pub collect_from_fields-returns : goal.collect_from_fields-returns
collect_from_fields-returns t c = c.loop-one.invariant ∙ ap (λ more. c.args.into.now ++ more) (fields_taken c.args.fields.now c.loop-one.one-index c.loop-one-test.false)
