use Rattle.base.proofs.PairLemmas.{pair_added, pair_fresh}
use Rattle.base.proofs.keyed_lists.pairs.Pairs.add.Goals as goal

pub returns-clause-pairs : goal.returns-clause-pairs
returns-clause-pairs c = pair_added c.self.inside.pairs.keys c.args.self.now c.insert.new.self.keys (c.args.left, c.args.right) c.self.view_is c.in_ok-insert.ensures.keys

pub returns-clause-fresh : goal.returns-clause-fresh
returns-clause-fresh c = pair_fresh c.self.inside.pairs.keys c.args.self.now (c.args.left, c.args.right) c.in_ok-insert.field-0 c.self.view_is c.in_ok-insert.ensures.added
