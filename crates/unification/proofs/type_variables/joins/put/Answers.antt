use Rattle.std.proofs.Common.{arith}
use Rattle.unification.proofs.Becoming.{put_in, put_out}
use Rattle.unification.proofs.Joining.{made_work}
use Rattle.unification.proofs.type_variables.joins.put.Goals as goal

pub returns-then-term_is-clause-becomes : goal.returns-then-term_is-clause-becomes
returns-then-term_is-clause-becomes c = put_in c.args.slots.now c.args.at c.args.sort c.args.term _ c.requires.fits c.requires.within c.requires.open c.requires.term c.term_is.ensures c.if-term_is.true

pub returns-else-term_is-clause-becomes : goal.returns-else-term_is-clause-becomes
returns-else-term_is-clause-becomes c = put_out c.args.slots.now c.args.at c.args.sort c.args.term _ c.requires.fits c.requires.within c.requires.open c.term_is.ensures c.if-term_is.false

pub returns-else-term_is-clause-less : goal.returns-else-term_is-clause-less
returns-else-term_is-clause-less c = omega (arith, made_work c.args.term c.requires.made)
