use Rattle.axiom_strategy.proofs.RangeLemmas.{ranges_first}
use Rattle.axiom_strategy.proofs.laws.ranges_come_first.Goals as goal

pub returns : goal.returns
returns c = ranges_first
