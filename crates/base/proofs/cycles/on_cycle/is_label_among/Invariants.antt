use Rattle.std.proofs.Common.{◌≢◌, ◌<◌, ℕ, get_or}
use Rattle.base.specs.Labelling.{label}
use Rattle.base.proofs.cycles.on_cycle.is_label_among.Given as goal

abbrev pub invariant-loop-target : goal.invariant-loop-target
invariant-loop-target l = (k : ℕ) → k < l.target-index → label l.labels (get_or l.targets k 0) ≢ l.own
