use Rattle.std.proofs.Common.{ℕ, ◌<◌, take, get_or}
use Rattle.step_checks.specs.Given.{HasStageSums}
use Rattle.step_checks.proofs.elimination.stages.has_each_sum.Given as goal

abbrev pub invariant-loop-step : goal.invariant-loop-step
invariant-loop-step l = (step d : ℕ) → step < l.step → HasStageSums l.rows (take step l.unknowns) (get_or l.unknowns step d)
