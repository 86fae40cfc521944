use Rattle.std.proofs.Common.{◌≡◌, ◌≤◌, ◌++◌, List, length, take}
use Rattle.typing_rules.specs.Constraint.{Constraint}
use Rattle.typing_rules.specs.Settings.{first_argument}
use Rattle.typing_rules.specs.CodeConstraints.{constraints_from}
use Rattle.unification.specs.Slots.{Fits}
use Rattle.type_constraints.specs.CodeSettings.{setting_of}
use Rattle.type_solver.specs.Equations.{reading_of}
use Rattle.type_solver.specs.Walking.{IsWalk}
use Rattle.type_solver.proofs.code_systems.nodes.read_nodes.Given as goal

abbrev pub invariant-loop-variable : goal.invariant-loop-variable
invariant-loop-variable l = record {
  walk : (steps : List (List Constraint)) → IsWalk (reading_of l.tables) l.variables steps l.fn.slots.items l.fn.before →
      IsWalk (reading_of l.tables) l.variables (steps ++ take l.variable (constraints_from (setting_of l.setting) 0 l.setting.body.now.nodes)) l.slots.items l.progress;
  fits : Fits l.slots.items;
  longer : l.variables ≤ length l.slots.items;
  first : l.first ≡ first_argument (setting_of l.setting) l.variable;
}
