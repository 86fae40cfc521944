use Rattle.strategy.proofs.RangeLemmas.{NoneListed}
use Rattle.strategy.proofs.early.ranges.lists_range.Given as goal

abbrev pub invariant-loop-instance : goal.invariant-loop-instance
invariant-loop-instance l = NoneListed l.instances l.formula l.instance-index
