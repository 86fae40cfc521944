use Rattle.std.proofs.Common.{drop}
use Rattle.type_constraints.specs.Seen.{seen_all}
use Rattle.type_solver.specs.Within.{AllWithin}
use Rattle.type_solver.proofs.within.all_within.Given as goal

abbrev pub invariant-loop-constraint : goal.invariant-loop-constraint
invariant-loop-constraint l = AllWithin l.variables (seen_all (drop l.constraint-index l.constraints)) → AllWithin l.variables (seen_all l.constraints)
