use Rattle.tree_checks.specs.Steps.{first_branch}
use Rattle.tree_checks.proofs.LeadLemmas.{IsGoing}
use Rattle.tree_checks.proofs.grown.is_grown.Given as goal

abbrev pub invariant-loop-step : goal.invariant-loop-step
invariant-loop-step l = IsGoing l.shapes l.fn.pool l.pool (first_branch l.fn.pool l.denial) l.steps l.step-index l.branch l.kept
