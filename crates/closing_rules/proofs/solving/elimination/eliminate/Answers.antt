use Rattle.std.proofs.Common.{sym, subst}
use Rattle.tableau.specs.PoolBranches.{branch_in}
use Rattle.row_reasoning.specs.Rows.{AreNames}
use Rattle.closing_rules.proofs.solving.elimination.eliminate.Goals as goal

pub solve-requires : goal.solve-requires
solve-requires c =
    let ns = c.args.pool.now in
    let b = branch_in ns c.args.branch.now in
    let naming = c.in_ok-names.ensures in
    c.rows_fit.ensures b naming.class c.in_ok-rows.rows.classes.keys c.in_ok-rows.rows.rows (c.in_ok-rows.ensures.rows naming.class naming.classing (subst (AreNames ns b naming.class) (sym c.as_slice-2.ensures.value) naming.named))
