use Rattle.std.proofs.Common.{take}
use Rattle.step_checks.specs.Choices.{AreMetAt}
use Rattle.step_checks.proofs.elimination.bounds.are_met.Given as goal

abbrev pub invariant-loop-bound : goal.invariant-loop-bound
invariant-loop-bound l = AreMetAt (take l.bound-index l.bounds) l.numerator l.denominator
