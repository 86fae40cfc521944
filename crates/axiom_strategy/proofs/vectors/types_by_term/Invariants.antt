use Rattle.std.proofs.Common.{take}
use Rattle.axiom_strategy.specs.Keyed.{AreListed, ArePairsOf}
use Rattle.axiom_strategy.specs.Vectors.{IsTypeFor}
use Rattle.axiom_strategy.proofs.vectors.types_by_term.Given as goal

abbrev pub invariant-loop-typing : goal.invariant-loop-typing
invariant-loop-typing l = record {
  pairs : ArePairsOf l.types.lists l.types.pairs;
  types : AreListed (IsTypeFor (take l.typing-index l.typings)) l.types.lists;
}
