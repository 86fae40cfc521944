use Rattle.std.proofs.Common.{◌∙◌}
use Rattle.body_names.proofs.CodeListings.{fields_taken}
use Rattle.body_names.proofs.code.fields.fields_of.Goals as goal

pub returns : goal.returns
returns c = c.loop-one.invariant ∙ fields_taken c.args.fields.now c.loop-one.one-index c.loop-one-test.false
