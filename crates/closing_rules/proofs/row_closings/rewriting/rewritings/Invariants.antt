use Rattle.std.proofs.Common.{nat_eq}
use Rattle.indexmap.specs.IndexMap.{get}
use Rattle.term_pool.specs.Pools.{Extends}
use Rattle.row_reasoning.specs.DifferencesSums.{AreChosenSums}
use Rattle.closing_rules.specs.Rewritings.{AreRewritings}
use Rattle.closing_rules.proofs.row_closings.rewriting.rewritings.Given as goal

abbrev pub invariant-loop-number : goal.invariant-loop-number
invariant-loop-number l = record {
  extends : Extends l.fn.pool l.pool;
  sums : AreChosenSums l.pool l.choice.classes.now l.choice.names.now (get nat_eq l.choice.chosen.now) (get nat_eq l.sums);
  made : AreRewritings l.pool l.branch l.choice.classes.now l.choice.names.now (get nat_eq l.choice.chosen.now) l.cited l.rewritings.items l.number;
}
