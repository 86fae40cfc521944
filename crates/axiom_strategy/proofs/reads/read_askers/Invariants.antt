use Rattle.std.proofs.Common.{take}
use Rattle.tableau.specs.PoolBranches.{branch_in}
use Rattle.axiom_strategy.proofs.ReadAskLemmas.{AreReadAskers}
use Rattle.axiom_strategy.proofs.reads.read_askers.Given as goal

abbrev pub invariant-loop-term : goal.invariant-loop-term
invariant-loop-term l = AreReadAskers l.pool (branch_in l.pool l.branch) (take l.term-index l.terms) l.askers.items
