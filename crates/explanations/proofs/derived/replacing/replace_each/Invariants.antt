use Rattle.std.proofs.Common.{◌≡◌, ℕ, take, Some}
use Rattle.std.specs.Prelude.{slice_get}
use Rattle.term_pool.specs.Items.{formula_in}
use Rattle.term_pool.specs.Pools.{item_at, Extends}
use Rattle.certificates.specs.BranchesBranch.{Branch}
use Rattle.explanations.specs.Chains.{HasPositions, Keeps, IsAt, IsChain}
use Rattle.explanations.specs.Replacing.{after_all, CanBeginEach}
use Rattle.explanations.proofs.derived.replacing.replace_each.Given as goal

abbrev pub invariant-loop-difference : goal.invariant-loop-difference
invariant-loop-difference l = record {
  extends : Extends l.fn.pool l.pool;
  positions : HasPositions l.chain;
  keeps : Keeps l.fn.chain l.chain;
  at : (number : ℕ) → slice_get l.fn.chain.formulas l.source ≡ Some number → IsAt l.pool l.chain l.position (formula_in (after_all l.fn.pool l.numbers (item_at l.fn.pool number) (take l.difference-index l.differences)));
  chain : (b : Branch) → IsChain l.fn.pool b l.fn.chain → CanBeginEach l.fn.pool b l.fn.chain l.numbers l.differences → IsChain l.pool b l.chain;
}
