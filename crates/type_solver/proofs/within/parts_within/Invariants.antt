use Rattle.std.proofs.Common.{drop}
use Rattle.type_solver.specs.Within.{VariablesWithin}
use Rattle.type_solver.proofs.within.parts_within.Given as goal

abbrev pub invariant-loop-part : goal.invariant-loop-part
invariant-loop-part l = VariablesWithin l.variables (drop l.part-index l.parts) → VariablesWithin l.variables l.parts
