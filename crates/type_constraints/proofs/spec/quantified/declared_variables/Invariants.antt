use Rattle.std.proofs.Common.{◌≡◌, take}
use Rattle.std.specs.List.{flat_map}
use Rattle.typing_rules.specs.SpecConstraints.{bind_constraints, binds_in}
use Rattle.type_constraints.specs.Seen.{seen_all}
use Rattle.type_constraints.specs.SpecSettings.{setting_of}
use Rattle.type_constraints.proofs.spec.quantified.declared_variables.Given as goal

abbrev pub invariant-loop-index : goal.invariant-loop-index
invariant-loop-index l =
    seen_all l.constraints.items ≡ flat_map (bind_constraints (setting_of l.setting)) (flat_map binds_in (take l.index l.setting.body.now.nodes))
