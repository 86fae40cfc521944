use Rattle.std.proofs.Common.{◌≡◌, map, take}
use Rattle.step_checks.specs.Links.{formula_added}
use Rattle.step_checks.proofs.closings.adding.read_added.Given as goal

abbrev pub invariant-loop-step : goal.invariant-loop-step
invariant-loop-step l = l.added.items ≡ map (formula_added l.pool) (take l.step-index l.steps)
