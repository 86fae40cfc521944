use Rattle.step_checks.specs.Inside.{AreEntriesMarked}
use Rattle.step_checks.proofs.closings.inside.mark_entries.Given as goal

abbrev pub invariant-loop-i : goal.invariant-loop-i
invariant-loop-i l = AreEntriesMarked l.pool l.branch l.marks l.i
