use Rattle.std.proofs.Common.{take}
use Rattle.std.specs.Prelude.{All}
use Rattle.step_checks.specs.Links.{IsNamed}
use Rattle.tree_checks.proofs.texts.numbers.are_named.Given as goal

abbrev pub invariant-loop-step : goal.invariant-loop-step
invariant-loop-step l = All (IsNamed l.pool) (take l.step-index l.steps)
