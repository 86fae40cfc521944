use Rattle.unification.proofs.Becoming.{halved, halved_same}
use Rattle.unification.proofs.type_variables.roots.halve.Goals as goal

pub returns-in-Some-clause-same : goal.returns-in-Some-clause-same
returns-in-Some-clause-same c t m = halved_same c.args.slots.now c.args.at c.in-Some.after t c.requires.within m

pub returns-in-Some-clause-becomes : goal.returns-in-Some-clause-becomes
returns-in-Some-clause-becomes c = halved c.args.slots.now c.args.at c.args.next c.in-Some.after c.requires.fits c.requires.within c.requires.bound c.in-Some.ensures
