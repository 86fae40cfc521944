use Rattle.std.proofs.Common.{take}
use Rattle.step_checks.specs.Choices.{AreBounds}
use Rattle.step_checks.proofs.elimination.choices.bounds_of.Given as goal

abbrev pub invariant-loop-i : goal.invariant-loop-i
invariant-loop-i l = AreBounds (take l.i l.rows) l.before l.values l.unknown l.bounds.items
