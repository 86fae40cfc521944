use Rattle.std.proofs.Common.{take}
use Rattle.term_pool.specs.Items.{formula_in}
use Rattle.term_pool.specs.Pools.{Extends}
use Rattle.certificates.specs.BranchesBranch.{Branch}
use Rattle.explanations.specs.Chains.{HasPositions, Keeps, IsAt, IsChain}
use Rattle.explanations.specs.Replacing.{after_all}
use Rattle.closing_rules.specs.Rewriting.{source_item, CanBeginEach}
use Rattle.closing_rules.proofs.closings.rewriting.rewritten.Given as goal

abbrev pub invariant-loop-difference : goal.invariant-loop-difference
invariant-loop-difference l = record {
  extends : Extends l.fn.pool l.pool;
  positions : HasPositions l.chain;
  keeps : Keeps l.fn.chain l.chain;
  at : IsAt l.pool l.chain l.position (formula_in (after_all l.fn.pool l.numbers (source_item l.fn.pool l.fn.chain l.source) (take l.difference-index l.differences)));
  chain : (b : Branch) → IsChain l.fn.pool b l.fn.chain → CanBeginEach l.fn.pool b l.fn.chain l.numbers l.differences → IsChain l.pool b l.chain;
}
