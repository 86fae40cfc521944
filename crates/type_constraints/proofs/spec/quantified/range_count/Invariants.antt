use Rattle.std.proofs.Common.{◌≡◌, ◌+◌, drop}
use Rattle.typing_rules.specs.SpecConstraints.{range_count}
use Rattle.type_constraints.proofs.spec.quantified.range_count.Given as goal

abbrev pub invariant-loop-bind : goal.invariant-loop-bind
invariant-loop-bind l = l.count + range_count (drop l.bind-index l.binds) ≡ range_count l.binds
