use Rattle.axiom_strategy.proofs.BesideLemmas.{new_in, new_number, old_in, old_number}
use Rattle.axiom_strategy.proofs.beside.add_new.Goals as goal

pub returns-then-not-fresh-clause-seen : goal.returns-then-not-fresh-clause-seen
returns-then-not-fresh-clause-seen c = old_in c.args.seen.now.keys c.args.numbers.now.items c.args.number c.requires c.in_ok-fresh.ensures.keys c.in_ok-fresh.ensures.added c.if-not-fresh.true

pub returns-then-not-fresh-clause-has : goal.returns-then-not-fresh-clause-has
returns-then-not-fresh-clause-has c = old_number c.args.seen.now.keys c.args.numbers.now.items c.args.number c.requires c.in_ok-fresh.ensures.added c.if-not-fresh.true

pub returns-clause-seen : goal.returns-clause-seen
returns-clause-seen c = new_in c.args.seen.now.keys c.args.numbers.now.items c.args.number c.requires c.in_ok-fresh.ensures.keys c.in_ok-push.ensures.items

pub returns-clause-has : goal.returns-clause-has
returns-clause-has c = new_number c.args.seen.now.keys c.args.numbers.now.items c.args.number c.requires c.in_ok-push.ensures.items
