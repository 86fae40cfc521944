use Rattle.std.proofs.Common.{take}
use Rattle.axiom_strategy.specs.Vectors.{AreMoreAskers, IsPairOf}
use Rattle.axiom_strategy.proofs.vectors.add_pair.Given as goal

abbrev pub invariant-loop-of : goal.invariant-loop-of
invariant-loop-of l = AreMoreAskers l.fn.askers.items l.askers.items (IsPairOf (take l.of-index l.types) l.pairs l.left l.right)
