use Rattle.std.proofs.Common.{◌++◌, ◌∙◌, ap}
use Rattle.syntax_tree.proofs.Taken.{patterns_taken, field_patterns_taken}
use Rattle.syntax_tree.proofs.source.locals.+collect_names.Goals as goal

pub collect_from_patterns-returns : goal.collect_from_patterns-returns
collect_from_patterns-returns t c = c.loop-one.invariant ∙ ap (λ more. c.args.into.now ++ more) (patterns_taken c.args.patterns.now c.loop-one.one-index c.loop-one-test.false)

pub collect_from_fields-returns : goal.collect_from_fields-returns
collect_from_fields-returns t c = c.loop-one.invariant ∙ ap (λ more. c.args.into.now ++ more) (field_patterns_taken c.args.fields.now c.loop-one.one-index c.loop-one-test.false)
