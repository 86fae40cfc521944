use Rattle.std.proofs.Common.{◌≡◌, ◌+◌, ◌*◌, ◌^◌, ◌<◌, length, take}
use Rattle.step_checks.specs.Digits.{number_of}
use Rattle.step_checks.proofs.DigitLemmas.{weight}
use Rattle.step_checks.proofs.naturals.digits.times_digit.Given as goal

abbrev pub invariant-loop-digit : goal.invariant-loop-digit
invariant-loop-digit l = record {
  long : length l.product.items ≡ l.digit-index;
  small : l.carry < 2 ^ 64;
  so_far : number_of l.product.items + weight l.digit-index * l.carry ≡ number_of (take l.digit-index l.digits) * l.factor;
}
