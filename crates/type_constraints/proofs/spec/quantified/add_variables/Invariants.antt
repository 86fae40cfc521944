use Rattle.std.proofs.Common.{◌≡◌, ◌++◌, take}
use Rattle.std.specs.List.{flat_map}
use Rattle.typing_rules.specs.SpecConstraints.{bind_constraints}
use Rattle.type_constraints.specs.Seen.{seen_all}
use Rattle.type_constraints.specs.SpecSettings.{setting_of}
use Rattle.type_constraints.proofs.spec.quantified.add_variables.Given as goal

abbrev pub invariant-loop-bind : goal.invariant-loop-bind
invariant-loop-bind l =
    seen_all l.constraints.items ≡ seen_all l.fn.constraints.items ++ flat_map (bind_constraints (setting_of l.setting)) (take l.bind-index l.binds)
