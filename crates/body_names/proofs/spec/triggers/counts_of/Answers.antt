use Rattle.std.proofs.Common.{◌∙◌}
use Rattle.body_names.proofs.Listings.{terms_taken}
use Rattle.body_names.proofs.spec.triggers.counts_of.Goals as goal

pub returns : goal.returns
returns c = c.loop-one.invariant ∙ terms_taken c.args.triggers.now c.loop-one.one-index c.loop-one-test.false
