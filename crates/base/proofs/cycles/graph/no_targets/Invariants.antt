use Rattle.std.proofs.Common.{◌≡◌, replicate, []}
use Rattle.base.proofs.cycles.graph.no_targets.Given as goal

abbrev pub invariant-loop : goal.invariant-loop
invariant-loop l = l.targets.items ≡ replicate l.counter []
