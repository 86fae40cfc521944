use Rattle.std.proofs.Common.{◌≡◌, ◌++◌, drop}
use Rattle.typing_rules.specs.CodeSystems.{parameter_constraints}
use Rattle.type_constraints.specs.Seen.{seen_all}
use Rattle.type_constraints.specs.CodeSettings.{setting_of}
use Rattle.type_constraints.proofs.code.whole.add_parameters.Given as goal

abbrev pub invariant-loop-local : goal.invariant-loop-local
invariant-loop-local l =
    seen_all l.constraints.items ++ parameter_constraints (setting_of l.setting) l.local (drop l.local l.parameters) ≡ seen_all l.fn.constraints.items ++ parameter_constraints (setting_of l.setting) 0 l.parameters
