use Rattle.std.proofs.Common.{take}
use Rattle.step_checks.specs.Stages.{AreLowers}
use Rattle.step_checks.proofs.elimination.stages.lower_rows.Given as goal

abbrev pub invariant-loop-i : goal.invariant-loop-i
invariant-loop-i l = AreLowers (take l.i l.rows) l.eliminated l.unknown l.lowers
