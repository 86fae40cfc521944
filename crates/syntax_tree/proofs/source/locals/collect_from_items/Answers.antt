use Rattle.std.proofs.Common.{◌++◌, ◌∙◌, ap}
use Rattle.syntax_tree.proofs.Taken.{lets_taken}
use Rattle.syntax_tree.proofs.source.locals.collect_from_items.Goals as goal

pub returns : goal.returns
returns c = c.loop-one.invariant ∙ ap (λ more. c.args.into.now ++ more) (lets_taken c.args.items.now c.loop-one.one-index c.loop-one-test.false)
