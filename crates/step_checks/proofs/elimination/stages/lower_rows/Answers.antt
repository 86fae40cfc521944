use Rattle.std.proofs.Common.{◌+◌, ◌<◌, ◌++◌, ◌∷◌, [], List, length, take, sym, ◌∙◌, subst, arith}
use Rattle.linear_arith.specs.Inequality.{Inequality}
use Rattle.step_checks.specs.Stages.{AreLowers}
use Rattle.step_checks.proofs.CheckLemmas.{refused}
use Rattle.step_checks.proofs.SetLemmas.{rows_more}
use Rattle.step_checks.proofs.StageLemmas.{lowers_with, lowers_same}
use Rattle.step_checks.proofs.elimination.stages.lower_rows.Goals as goal
use Rattle.step_checks.proofs.elimination.stages.lower_rows.Goals.{then-is_lower+in_ok-push, else-is_lower}

pub loop-i-preserved : goal.loop-i-preserved
loop-i-preserved c =
    let rows = c.args.rows.now in
    let gone = c.args.eliminated.now in
    let u = c.args.unknown in
    let i = c.loop-i.i in
    let row = c.at-row.result.now in
    let old = c.loop-i.lowers in
    let l : i < length rows = omega arith in
    let more = rows_more rows i row l c.at-row.ensures in
    elim c.if-is_lower.branch [
      | then-is_lower+in_ok-push w ↦
          let is = c.is_lower.ensures.0 w.if-is_lower.true in
          subst (λ (ls : List Inequality). AreLowers (take (i + 1) rows) gone u ls) (sym (w.lowers-is ∙ w.in_ok-push.ensures)) (subst (λ (rs : List Inequality). AreLowers rs gone u (old ++ row ∷ [])) (sym more) (lowers_with (take i rows) old gone u row is.0 is.1 c.loop-i.invariant))
      | else-is_lower w ↦
          subst (λ (ls : List Inequality). AreLowers (take (i + 1) rows) gone u ls) (sym w.lowers-is) (subst (λ (rs : List Inequality). AreLowers rs gone u old) (sym more) (lowers_same (take i rows) old gone u row (λ b z. refused _ _ w.if-is_lower.false c.is_lower.ensures (b, z)) c.loop-i.invariant))
    ]
