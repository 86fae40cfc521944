use Rattle.std.proofs.Common.{take}
use Rattle.axiom_strategy.specs.Beside.{AreIn, AreVectorTypes}
use Rattle.axiom_strategy.proofs.beside.vector_types.Given as goal

abbrev pub invariant-loop-typing : goal.invariant-loop-typing
invariant-loop-typing l = record {
  seen : AreIn l.seen.keys l.types.items;
  are : AreVectorTypes l.pool (take l.typing-index l.typings) l.types.items;
}
