use Rattle.std.proofs.Common.{◌≡◌, replicate, None}
use Rattle.base.proofs.cycles.roots.no_labels.Given as goal

abbrev pub invariant-loop : goal.invariant-loop
invariant-loop l = l.labels.items ≡ replicate l.counter None
