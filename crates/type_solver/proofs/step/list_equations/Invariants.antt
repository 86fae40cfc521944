use Rattle.std.proofs.Common.{take}
use Rattle.type_constraints.specs.Seen.{seen_all}
use Rattle.type_solver.specs.Equations.{Keeps, reading_of}
use Rattle.type_solver.specs.Steps.{AllSay}
use Rattle.type_solver.proofs.step.list_equations.Given as goal

abbrev pub invariant-loop-constraint : goal.invariant-loop-constraint
invariant-loop-constraint l = record {
  keeps : Keeps l.fn.slots.items l.slots.items;
  says : AllSay (reading_of l.tables) l.fn.slots.items l.slots.items (seen_all (take l.constraint-index l.constraints)) l.equations.items;
}
