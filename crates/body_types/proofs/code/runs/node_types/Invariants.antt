use Rattle.std.proofs.Common.{◌≡◌, ◌<◌, ◌≤◌, All, length}
use Rattle.typing_rules.specs.Answers.{System}
use Rattle.unification.specs.Choices.{HasDefaults}
use Rattle.body_types.specs.Runs.{AreNodeTypes}
use Rattle.body_types.proofs.code.runs.node_types.Given as goal

abbrev pub invariant-loop-index : goal.invariant-loop-index
invariant-loop-index l = record {
  count : length l.types.items ≡ l.index;
  within : All (λ number. number < 5) l.types.items;
  are : (s : System) → HasDefaults s l.defaulted → length l.body.nodes ≤ s.variables → AreNodeTypes s l.body.nodes l.types.items;
}
