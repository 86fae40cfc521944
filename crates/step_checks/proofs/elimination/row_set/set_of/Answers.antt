use Rattle.std.proofs.Common.{◌<◌, List, length, take, sym, subst, arith}
use Rattle.linear_arith.specs.Inequality.{Inequality}
use Rattle.linear_arith.specs.Elimination.{AreDifferent}
use Rattle.step_checks.specs.Sets.{IsSetOf}
use Rattle.step_checks.proofs.SetLemmas.{rows_more, different_more}
use Rattle.step_checks.proofs.elimination.row_set.set_of.Goals as goal

pub loop-i-preserved : goal.loop-i-preserved
loop-i-preserved c =
    let rows = c.args.rows.now in
    let i = c.loop-i.i in
    let row = c.at.result.now in
    let inv = c.loop-i.invariant in
    let l : i < length rows = omega arith in
    let more = rows_more rows i row l c.at.ensures in
    record {
      set = subst (λ (rs : List Inequality). IsSetOf rs c.add.new.self) (sym more) (c.in_ok-add.ensures.rows (take i rows) inv.set);
      different = subst (λ (rs : List Inequality). AreDifferent rs) (sym more) (different_more (take i rows) row inv.different ((c.in_ok-add.ensures.fresh (take i rows) inv.set).0 c.if-not-branch.false));
    }
