use Rattle.std.proofs.Common.{◌≡◌}
use Rattle.typing_rules.specs.Settings.{first_argument}
use Rattle.type_constraints.specs.CodeSettings.{setting_of}
use Rattle.type_solver.proofs.code_systems.counts.variable_count.Given as goal

abbrev pub invariant-loop-index : goal.invariant-loop-index
invariant-loop-index l = l.first ≡ first_argument (setting_of l.setting) l.index
