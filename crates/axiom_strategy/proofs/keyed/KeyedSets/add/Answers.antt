use Rattle.axiom_strategy.proofs.StableLemmas.{was_there}
use Rattle.axiom_strategy.proofs.KeyedLemmas.{added, had, more_pairs}
use Rattle.axiom_strategy.proofs.keyed.KeyedSets.add.Goals as goal

pub returns-then-not-fresh-clause-pairs : goal.returns-then-not-fresh-clause-pairs
returns-then-not-fresh-clause-pairs c =
    let was = was_there c.args.self.now.pairs (c.args.key, c.args.number) c.in_ok-fresh.fresh c.if-not-fresh.true c.in_ok-fresh.ensures.fresh in
    more_pairs c.args.self.now.lists c.args.self.now.lists c.args.self.now.pairs _ c.args.key c.args.number c.requires c.in_ok-fresh.ensures.pairs (had c.args.self.now.lists c.args.key c.args.number ((c.requires.each c.args.key c.args.number).0 was))

pub returns-then-not-fresh-clause-more : goal.returns-then-not-fresh-clause-more
returns-then-not-fresh-clause-more c =
    let was = was_there c.args.self.now.pairs (c.args.key, c.args.number) c.in_ok-fresh.fresh c.if-not-fresh.true c.in_ok-fresh.ensures.fresh in
    had c.args.self.now.lists c.args.key c.args.number ((c.requires.each c.args.key c.args.number).0 was)

pub returns-clause-pairs : goal.returns-clause-pairs
returns-clause-pairs c =
    more_pairs c.args.self.now.lists _ c.args.self.now.pairs _ c.args.key c.args.number c.requires c.in_ok-fresh.ensures.pairs (added c.args.self.now.lists _ c.args.key c.args.number c.in_ok-add.ensures)

pub returns-clause-more : goal.returns-clause-more
returns-clause-more c = added c.args.self.now.lists _ c.args.key c.args.number c.in_ok-add.ensures
