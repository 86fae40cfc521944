use Rattle.std.proofs.Common.{take}
use Rattle.term_pool.specs.Pools.{Extends}
use Rattle.certificates.specs.BranchesBranch.{Branch}
use Rattle.explanations.specs.Chains.{term_at, HasPositions, Keeps, IsChain, CanBegin}
use Rattle.congruence_closure.specs.Numbers.{number_at}
use Rattle.explanations.specs.Routes.{IsEquation, end_of}
use Rattle.explanations.proofs.derived.route.along.Given as goal

abbrev pub invariant-loop-join : goal.invariant-loop-join
invariant-loop-join l = record {
  extends : Extends l.fn.pool l.pool;
  positions : HasPositions l.chain;
  keeps : Keeps l.fn.chain l.chain;
  at : IsEquation l.pool l.chain l.position l.left (number_at l.numbers (end_of l.from (take l.join-index l.route)));
  chain : (b : Branch) → IsChain l.fn.pool b l.fn.chain → CanBegin b l.fn.chain (term_at l.fn.pool l.left) → IsChain l.pool b l.chain;
}
