use Rattle.std.proofs.Common.{take}
use Rattle.step_checks.specs.Choices.{HasReached}
use Rattle.step_checks.proofs.elimination.bounds.has_reached.Given as goal

abbrev pub invariant-loop-bound : goal.invariant-loop-bound
invariant-loop-bound l = HasReached (take l.bound-index l.bounds) l.numerator l.denominator → ⊥
