use Rattle.tableau.specs.PoolBranches.{branch_in}
use Rattle.ematching.specs.Numbers.{formula_at}
use Rattle.ematching.proofs.TriggerLemmas.{not_empty, one_match}
use Rattle.ematching.proofs.matches.is_matched.Goals as goal

pub returns : goal.returns
returns c =
    let some = not_empty c.in_ok-found.found c.is_empty.result c.is_empty.ensures in
    let one = one_match c.args.pool.now (branch_in c.args.pool.now c.args.branch.now) (formula_at c.args.pool.now c.args.formula) c.args.term c.requires.term c.in_ok-found.found c.in_ok-found.ensures in
    (λ t. one.0 (some.0 t), λ m. some.1 (one.1 m))
