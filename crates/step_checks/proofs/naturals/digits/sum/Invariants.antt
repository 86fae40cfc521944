use Rattle.std.proofs.Common.{◌≡◌, ◌+◌, ◌*◌, ◌^◌, ◌<◌, length, take}
use Rattle.step_checks.specs.Digits.{number_of}
use Rattle.step_checks.proofs.DigitLemmas.{weight}
use Rattle.step_checks.proofs.naturals.digits.sum.Given as goal

abbrev pub invariant-loop-position : goal.invariant-loop-position
invariant-loop-position l = record {
  long : length l.total.items ≡ l.position;
  small : l.carry < 2 ^ 64;
  so_far : number_of l.total.items + weight l.position * l.carry ≡ number_of (take l.position l.left) + number_of (take l.position l.right);
}
