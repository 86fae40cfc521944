use Rattle.std.proofs.Common.{◌↔◌, ◌≤◌, IsTrue, take}
use Rattle.step_checks.specs.Digits.{number_of}
use Rattle.step_checks.proofs.naturals.digits.is_at_most.Given as goal

abbrev pub invariant-loop-position : goal.invariant-loop-position
invariant-loop-position l = IsTrue l.is_at_most ↔ (number_of (take l.position l.left) ≤ number_of (take l.position l.right))
