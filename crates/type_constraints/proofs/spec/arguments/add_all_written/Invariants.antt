use Rattle.std.proofs.Common.{◌≡◌, ◌++◌, drop}
use Rattle.typing_rules.specs.SpecConstraints.{has_spec_arguments}
use Rattle.type_constraints.specs.Seen.{seen_all}
use Rattle.type_constraints.specs.SpecSettings.{setting_of}
use Rattle.type_constraints.proofs.spec.arguments.add_all_written.Given as goal

abbrev pub invariant-loop-of : goal.invariant-loop-of
invariant-loop-of l =
    seen_all l.constraints.items ++ has_spec_arguments (setting_of l.setting) l.at (drop l.of-index l.types) ≡ seen_all l.fn.constraints.items ++ has_spec_arguments (setting_of l.setting) l.first l.types
