use Rattle.std.proofs.Common.{ℕ, ◌<◌, ◌*◌, ◌↔◌, IsTrue}
use Rattle.typing_rules.specs.Events.{Unassigned, Undropped}
use Rattle.definite_assignment.specs.Verdicts.{IsWrong}
use Rattle.definite_assignment.proofs.rules.broken_rules.Given as goal

abbrev pub invariant-loop-group : goal.invariant-loop-group
invariant-loop-group l = record {
  unassigned : IsTrue l.broken.unassigned ↔ ((i : ℕ) × (i < l.group * 64) × IsWrong Unassigned (record { types = l.types; parameters = l.parameters; nodes = l.body.nodes }) i);
  undropped : IsTrue l.broken.undropped ↔ ((i : ℕ) × (i < l.group * 64) × IsWrong Undropped (record { types = l.types; parameters = l.parameters; nodes = l.body.nodes }) i);
}
