use Rattle.std.proofs.Common.{◌≡◌, take}
use Rattle.std.specs.Prelude.{All}
use Rattle.step_checks.proofs.axiom_rules.listed.is_among.Given as goal

abbrev pub invariant-loop-step : goal.invariant-loop-step
invariant-loop-step l = All (λ s. s ≡ l.sought → ⊥) (take l.step-index l.steps)
