use Rattle.std.proofs.Common.{take}
use Rattle.std.specs.Prelude.{All}
use Rattle.step_checks.specs.Links.{IsShallowStep}
use Rattle.step_checks.proofs.closings.adding.are_shallow.Given as goal

abbrev pub invariant-loop-step : goal.invariant-loop-step
invariant-loop-step l = All (IsShallowStep l.pool) (take l.step-index l.steps)
