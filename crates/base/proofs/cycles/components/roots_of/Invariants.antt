use Rattle.std.proofs.Common.{◌≡◌, ◌<◌, ℕ, length, get_or}
use Rattle.base.specs.Labelling.{label, root_of}
use Rattle.base.proofs.cycles.components.roots_of.Given as goal

abbrev pub invariant-loop-label : goal.invariant-loop-label
invariant-loop-label l = record {
  long : length l.roots.items ≡ l.label-index;
  each : (i : ℕ) → i < l.label-index → get_or l.roots.items i 0 ≡ root_of l.order (label l.labels i);
}
