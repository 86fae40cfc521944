use Rattle.std.proofs.Common.{map, take}
use Rattle.scopes.specs.Visible.{IsFirstBarred, function_code}
use Rattle.scopes.proofs.visible.first.first_function.Given as goal

abbrev pub invariant-loop-number : goal.invariant-loop-number
invariant-loop-number l = IsFirstBarred l.program (map function_code (take l.number l.program.functions)) l.found
