use Rattle.std.proofs.Common.{take}
use Rattle.axiom_strategy.specs.Keyed.{AreListed, ArePairsOf}
use Rattle.axiom_strategy.specs.Reads.{IsReadOf}
use Rattle.axiom_strategy.proofs.reads.reads_by_class.Given as goal

abbrev pub invariant-loop-number : goal.invariant-loop-number
invariant-loop-number l = record {
  pairs : ArePairsOf l.sets.lists l.sets.pairs;
  reads : AreListed (IsReadOf l.pool l.classes l.reading (take l.number-index l.terms)) l.sets.lists;
}
