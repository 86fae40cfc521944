use Rattle.std.proofs.Common.{ℕ, ◌<◌, ◌≤◌, length}
use Rattle.typing_rules.specs.Answers.{System}
use Rattle.unification.specs.Choices.{HasDefaults}
use Rattle.body_types.specs.Fitting.{MisfitAt}
use Rattle.body_types.proofs.code.fitting.misfits.Given as goal

abbrev pub invariant-loop-variable : goal.invariant-loop-variable
invariant-loop-variable l = (s : System) → HasDefaults s l.defaulted → length l.body.nodes ≤ s.variables → (k : ℕ) → k < l.variable → MisfitAt s l.body.nodes k → ⊥
