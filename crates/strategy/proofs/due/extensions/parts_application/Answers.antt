use Rattle.std.proofs.Common.{refl}
use Rattle.tableau.specs.PoolBranches.{branch_in}
use Rattle.strategy.proofs.GrowthLemmas.{parts_due}
use Rattle.strategy.proofs.due.extensions.parts_application.Goals as goal

pub returns : goal.returns
returns c = λ shapes ns h. parts_due shapes ns (branch_in ns c.args.branch.now) _ c.args.step.entry refl (c.generation_of.ensures ns) h
