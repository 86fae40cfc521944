use Rattle.std.proofs.Common.{◌∙◌}
use Rattle.unification.proofs.Becoming.{narrow_in, slot_read}
use Rattle.unification.proofs.type_variables.joins.narrow.Goals as goal

pub returns-in-Open-clause-becomes : goal.returns-in-Open-clause-becomes
returns-in-Open-clause-becomes c = narrow_in c.args.slots.now c.args.at c.in-Open.other c.args.sort _ c.requires.fits c.requires.within (slot_read _ _ _ c.requires.within c.index-slots-at.is ∙ c.in-Open.is) c.both.ensures.both c.both.ensures.only
