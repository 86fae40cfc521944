use Rattle.step_checks.proofs.MarkLemmas.{sweep_start}
use Rattle.step_checks.proofs.closings.inside.mark_inside.Goals as goal

pub returns : goal.returns
returns c = c.sweep_all.ensures c.args.branch.now (sweep_start c.args.pool.now c.args.branch.now c.mark_entries.new.marks c.mark_entries.ensures)
