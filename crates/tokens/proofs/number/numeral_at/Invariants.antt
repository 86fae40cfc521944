use Rattle.std.proofs.Common.{◌≡◌, drop}
use Rattle.tokens.specs.Reading.{numeral_at}
use Rattle.tokens.proofs.number.numeral_at.Given as goal

abbrev pub invariant-loop-i : goal.invariant-loop-i
invariant-loop-i l = numeral_at l.base l.value l.i (drop l.i l.digits) ≡ numeral_at l.base 0 0 l.digits
