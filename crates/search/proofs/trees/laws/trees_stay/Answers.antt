use Rattle.search.proofs.StayLemmas.{tree_stays}
use Rattle.search.proofs.trees.laws.trees_stay.Goals as goal

pub returns : goal.returns
returns c shapes p spent ns ms tree grown h = tree_stays ns ms grown shapes p spent tree h
