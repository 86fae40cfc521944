use Rattle.strategy.proofs.ranks.said.Said.+value.Given as goal

abbrev pub decreases-value : goal.decreases-value
decreases-value l = l.depth
