use Rattle.row_reasoning.proofs.SideLemmas.{past_says}
use Rattle.row_reasoning.proofs.comparison.sides_of.Goals as goal

pub returns-in_default-2 : goal.returns-in_default-2
returns-in_default-2 c = (let h = rw c.in_default.is at c.node.ensures in past_says c.args.pool.now c.args.number h)
