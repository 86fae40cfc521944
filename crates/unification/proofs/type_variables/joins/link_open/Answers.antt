use Rattle.unification.proofs.Becoming.{link_in, then}
use Rattle.unification.proofs.type_variables.joins.link_open.Goals as goal

pub returns-clause-becomes : goal.returns-clause-becomes
returns-clause-becomes c = then (link_in c.args.slots.now c.args.low c.args.high c.args.sort c.requires.fits c.requires.below c.requires.within c.requires.open) c.narrow.ensures.becomes
