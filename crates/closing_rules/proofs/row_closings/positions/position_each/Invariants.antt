use Rattle.std.proofs.Common.{◌≡◌, length, take}
use Rattle.term_pool.specs.Pools.{Extends}
use Rattle.tableau.specs.PoolBranches.{branch_in}
use Rattle.explanations.specs.Chains.{HasPositions, Keeps, IsChain}
use Rattle.closing_rules.specs.Rewritings.{ArePlacedBy}
use Rattle.closing_rules.proofs.row_closings.positions.position_each.Given as goal

abbrev pub invariant-loop-rewriting : goal.invariant-loop-rewriting
invariant-loop-rewriting l = record {
  extends : Extends l.fn.pool l.pool;
  has_positions : HasPositions l.chain;
  keeps : Keeps l.fn.chain l.chain;
  chain : IsChain l.pool (branch_in l.fn.pool l.branch) l.chain;
  long : length l.positions.items ≡ length l.fn.chain.formulas;
  placed : ArePlacedBy l.fn.pool l.fn.chain l.numbers (take l.rewriting-index l.rewritings) l.pool l.chain l.positions.items;
}
