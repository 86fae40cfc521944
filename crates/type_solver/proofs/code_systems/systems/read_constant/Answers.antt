use Rattle.std.proofs.Common.{◌≡◌, ◌∙◌, ◌++◌, List, [], ap, length, rules}
use Rattle.typing_rules.specs.Settings.{variable_count}
use Rattle.typing_rules.specs.CodeConstraints.{barred_unless}
use Rattle.type_constraints.specs.declared.constraint.Constraint.{Constraint}
use Rattle.type_constraints.specs.Seen.{seen, seen_all}
use Rattle.type_constraints.specs.CodeSettings.{setting_of}
use Rattle.type_solver.proofs.CodeSystemsWhole.{constant_walked}
use Rattle.type_solver.proofs.code_systems.systems.read_constant.Goals as goal

pub returns-clause-walked : goal.returns-clause-walked
returns-clause-walked c =
    let none : c.new-declared.result.items ≡ [] = search rules in
    constant_walked c.args.program.now c.args.constant.now (length c.in_ok-slots.slots.items) (setting_of c.constant_setting-setting.result) (seen_all c.deref.result.now) (seen c.valued-whole.result) c.read_value.new.slots.items c.in_ok-progress.progress
    c.constant_setting-setting.ensures (ap seen_all c.deref.ensures.value ∙ c.in_ok-add_unless.ensures ∙ ap (λ (ds : List Constraint). seen_all ds ++ barred_unless c.is_constant_type.result) none ∙ ap barred_unless c.is_constant_type.ensures) c.valued-whole.ensures (c.in_ok-slots.ensures.same_length ∙ c.in_ok-variables.ensures) c.in_ok-progress.ensures

pub returns-clause-variables : goal.returns-clause-variables
returns-clause-variables c = c.in_ok-variables.ensures ∙ ap variable_count c.constant_setting-setting.ensures
