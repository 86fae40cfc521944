use Rattle.std.proofs.Common.{◌≡◌, ◌++◌, take}
use Rattle.type_constraints.specs.Seen.{seen_all}
use Rattle.type_constraints.proofs.constraint.add.Given as goal

abbrev pub invariant-loop-constraint : goal.invariant-loop-constraint
invariant-loop-constraint l = seen_all l.constraints.items ≡ seen_all l.fn.constraints.items ++ seen_all (take l.constraint-index l.more)
