use Rattle.std.proofs.Common.{◌≡◌, take}
use Rattle.type_constraints.specs.SpecSettings.{variables_of}
use Rattle.type_constraints.proofs.spec.variables.variable_count.Given as goal

abbrev pub invariant-loop-index : goal.invariant-loop-index
invariant-loop-index l = l.count ≡ variables_of (take l.index l.body.nodes)
