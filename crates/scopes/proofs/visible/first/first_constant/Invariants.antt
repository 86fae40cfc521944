use Rattle.std.proofs.Common.{map, take}
use Rattle.scopes.specs.Visible.{IsFirstBarred, constant_code}
use Rattle.scopes.proofs.visible.first.first_constant.Given as goal

abbrev pub invariant-loop-number : goal.invariant-loop-number
invariant-loop-number l = IsFirstBarred l.program (map constant_code (take l.number l.program.constants)) l.found
