use Rattle.tableau.specs.PoolBranches.{branch_in}
use Rattle.certificates.specs.Due.{IsNotClosed}
use Rattle.closing_rules.specs.Clashes.{IsClashOf}
use Rattle.tree_checks.proofs.FamilyLemmas.{decided}
use Rattle.tree_checks.proofs.LateLemmas.{closes}
use Rattle.tree_checks.proofs.late.is_not_closed.Goals as goal

pub returns : goal.returns
returns c =
    let b = branch_in c.args.pool.now c.args.branch.now in
    decided (IsNotClosed b) (IsClashOf b) (IsNotClosed b) (λ h. h) (λ clash h none. closes b clash h none) c.in_ok-clash.clash c.is_none.result c.in_ok-clash.ensures c.is_none.ensures
