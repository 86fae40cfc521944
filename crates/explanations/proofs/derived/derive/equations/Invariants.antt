use Rattle.std.proofs.Common.{◌≡◌, ℕ, suc, ◌+◌, length, Some}
use Rattle.std.specs.Prelude.{slice_get}
use Rattle.term_pool.specs.Pools.{Extends}
use Rattle.certificates.specs.BranchesBranch.{Branch}
use Rattle.explanations.specs.Chains.{HasPositions, Keeps, IsChain}
use Rattle.explanations.specs.Plans.{IsPlanOf}
use Rattle.explanations.specs.Derivations.{ArePlaced, CanBeginAny}
use Rattle.explanations.specs.declared.derived.plan.Plan.{Plan}
use Rattle.explanations.proofs.derived.derive.equations.Given as goal

abbrev pub invariant-loop-plan : goal.invariant-loop-plan
invariant-loop-plan l = record {
  extends : Extends l.fn.pool l.pool;
  positions : HasPositions l.chain;
  keeps : Keeps l.fn.chain l.chain;
  count : length l.plans.items + length l.equations.items ≡ length l.graph.links.now;
  each : (k m : ℕ) (p : Plan) → m + suc k ≡ length l.graph.links.now → slice_get l.plans.items m ≡ Some p → IsPlanOf l.fn.pool l.graph.nodes.now l.graph.links.now l.graph.numbers.now l.needed k p;
  placed : ArePlaced l.pool l.chain l.graph.links.now l.graph.numbers.now l.needed l.equations.items (length l.equations.items);
  chain : (b : Branch) → IsChain l.fn.pool b l.fn.chain → CanBeginAny l.fn.pool l.graph.nodes.now b l.fn.chain l.graph.numbers.now → IsChain l.pool b l.chain;
}

abbrev pub decreases-loop-plan : goal.decreases-loop-plan
decreases-loop-plan l = length l.plans.items
