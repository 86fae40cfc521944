use Rattle.search.proofs.PushLemmas.{AreLeftWaiting}
use Rattle.search.proofs.trees.tree.push_waiting.Given as goal

abbrev pub invariant-loop-count : goal.invariant-loop-count
invariant-loop-count l = AreLeftWaiting l.mark l.extension l.fn.waiting.items l.count l.waiting.items

abbrev pub decreases-loop-count : goal.decreases-loop-count
decreases-loop-count l = l.count
