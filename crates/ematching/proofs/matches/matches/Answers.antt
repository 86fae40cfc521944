use Rattle.tableau.specs.PoolBranches.{branch_in}
use Rattle.ematching.specs.Numbers.{formula_at}
use Rattle.ematching.proofs.TriggerLemmas.{if_both, all_matches}
use Rattle.ematching.proofs.matches.matches.Goals as goal

pub returns : goal.returns
returns c = if_both c.listed.result (λ x e once. all_matches c.args.pool.now (branch_in c.args.pool.now c.args.branch.now) (formula_at c.args.pool.now c.args.formula) c.in_ok-found.found x.items e once c.in_ok-found.ensures) c.listed.ensures.are c.listed.ensures.once
