use Rattle.std.proofs.Common.{◌≡◌, ℕ, true}
use Rattle.explanations.specs.Plans.{is_needed, ArePlans}
use Rattle.explanations.proofs.derived.plan.plans.Given as goal

abbrev pub invariant-loop-rest : goal.invariant-loop-rest
invariant-loop-rest l = record {
  plans : ArePlans l.pool l.graph.nodes.now l.graph.links.now l.graph.numbers.now l.needed.items l.plans.items l.rest;
  stays : (k : ℕ) → is_needed l.fn.needed.items k ≡ true → is_needed l.needed.items k ≡ true;
}

abbrev pub decreases-loop-rest : goal.decreases-loop-rest
decreases-loop-rest l = l.rest
