use Rattle.std.specs.Prelude.{◌<◌}
use Rattle.strategy.proofs.ranks.said.Said.+outlook.Given as goal

abbrev pub decreases-outlook : goal.decreases-outlook
decreases-outlook l = l.depth

abbrev pub invariant-loop-item : goal.invariant-loop-item
invariant-loop-item l = l.less < l.fn.depth
