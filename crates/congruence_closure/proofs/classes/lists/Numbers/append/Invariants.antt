use Rattle.std.proofs.Common.{◌≡◌, ◌++◌, take}
use Rattle.congruence_closure.proofs.classes.lists.Numbers.append.Given as goal

abbrev pub invariant-loop-number : goal.invariant-loop-number
invariant-loop-number l = l.self-inside.items.items ≡ l.fn.self ++ take l.number-index l.more
