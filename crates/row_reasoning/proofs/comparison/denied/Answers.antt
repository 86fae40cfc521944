use Rattle.row_reasoning.proofs.SideLemmas.{past_denies}
use Rattle.row_reasoning.proofs.comparison.denied.Goals as goal

pub returns-in_default-2 : goal.returns-in_default-2
returns-in_default-2 c = (let h = rw c.in_default.is at c.node.ensures in past_denies c.args.pool.now c.args.number h)
