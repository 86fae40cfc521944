use Rattle.base.proofs.PairLemmas.{pair_found}
use Rattle.base.proofs.keyed_lists.pairs.Pairs.has.Goals as goal

pub returns : goal.returns
returns c = pair_found c.self.inside.pairs.keys c.args.self.now (c.args.left, c.args.right) c.contains.result c.self.view_is c.contains.ensures
