use Rattle.std.proofs.Common.{◌≡◌, ◌∷◌, take}
use Rattle.congruence_closure.proofs.branch_classes.leaves.with_variable.Given as goal

abbrev pub invariant-loop-other : goal.invariant-loop-other
invariant-loop-other l = l.more.items ≡ l.variable ∷ take l.other-index l.bound
