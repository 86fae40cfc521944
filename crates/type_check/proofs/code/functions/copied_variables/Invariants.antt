use Rattle.std.proofs.Common.{◌≡◌, take}
use Rattle.type_check.proofs.code.functions.copied_variables.Given as goal

abbrev pub invariant-loop-number : goal.invariant-loop-number
invariant-loop-number l = l.variables.items ≡ take l.number-index l.numbers
