use Rattle.std.proofs.Common.{◌≡◌, Some, map, take}
use Rattle.type_check.proofs.code.functions.known_variables.Given as goal

abbrev pub invariant-loop-number : goal.invariant-loop-number
invariant-loop-number l = l.variables.items ≡ map Some (take l.number-index l.numbers)
