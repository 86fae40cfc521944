use Rattle.std.proofs.Common.{refl, rules}
use Rattle.tableau.specs.PoolBranches.{branch_in}
use Rattle.strategy.proofs.GrowthLemmas.{name_due}
use Rattle.strategy.proofs.due.extensions.name_application.Goals as goal

pub returns : goal.returns
returns c = λ shapes ns h. name_due shapes ns (branch_in ns c.args.branch.now) _ c.args.step _ (search rules) refl (c.generation_of.ensures ns) c.in_ok-formulas.ensures h
