use Rattle.tree_checks.proofs.ChosenLemmas.{padded_next}
use Rattle.tree_checks.proofs.bounds.chosen.padded_rows.Goals as goal

pub loop-row-preserved : goal.loop-row-preserved
loop-row-preserved c =
    let within = c.is_within.ensures.0 c.if-not-is_within.false in
    padded_next c.args.width c.args.rows.now c.loop-row.row-index c.loop-row.made c.push.new.self c.row-item.result c.in_ok-padded.field-0 c.loop-row-test.true c.row-item.is within c.in_ok-padded.ensures.padded c.in_ok-push.ensures.ok c.loop-row.invariant
