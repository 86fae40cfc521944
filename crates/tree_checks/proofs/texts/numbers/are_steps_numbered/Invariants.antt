use Rattle.std.proofs.Common.{take}
use Rattle.std.specs.Prelude.{All}
use Rattle.tree_checks.specs.Steps.{HasNumbers}
use Rattle.tree_checks.specs.declared.grown.steps.GrownStep.{GrownStep}
use Rattle.tree_checks.proofs.texts.numbers.are_steps_numbered.Given as goal

abbrev pub invariant-loop-step : goal.invariant-loop-step
invariant-loop-step l = All (λ (s : GrownStep). HasNumbers l.pool s.extension) (take l.step-index l.steps)
