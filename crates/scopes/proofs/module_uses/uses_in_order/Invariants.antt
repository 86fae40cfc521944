use Rattle.std.proofs.Common.{◌≡◌, map, take}
use Rattle.scopes.specs.Uses.{uses_among}
use Rattle.scopes.proofs.module_uses.uses_in_order.Given as goal

abbrev pub invariant-loop-number : goal.invariant-loop-number
invariant-loop-number l = l.uses.items ≡ map (λ m. uses_among l.all m.0) (take l.number l.program.modules)
