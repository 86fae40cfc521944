use Rattle.std.proofs.Common.{take}
use Rattle.unification.specs.Solved.{Solves}
use Rattle.unification.proofs.pairs.solve.Given as goal

abbrev pub invariant-loop-i : goal.invariant-loop-i
invariant-loop-i l = Solves l.variables (take l.i l.pairs) l.slots.items
