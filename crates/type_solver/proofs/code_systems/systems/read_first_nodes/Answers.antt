use Rattle.std.proofs.Common.{◌∙◌, ap, length}
use Rattle.typing_rules.specs.Settings.{variable_count}
use Rattle.type_constraints.specs.Seen.{seen, seen_all}
use Rattle.type_constraints.specs.CodeSettings.{setting_of}
use Rattle.type_solver.proofs.CodeSystemsWhole.{function_walked}
use Rattle.type_solver.proofs.code_systems.systems.read_first_nodes.Goals as goal

pub returns-clause-walked : goal.returns-clause-walked
returns-clause-walked c = function_walked c.args.program.now c.args.function.now c.args.count (length c.in_ok-slots.slots.items) (setting_of c.function_setting-setting.result) (seen_all c.deref.result.now) (seen c.returned-whole.result) c.read_body.new.slots.items c.in_ok-progress.progress
    c.function_setting-setting.ensures (ap seen_all c.deref.ensures.value ∙ c.in_ok-declared.ensures) c.returned-whole.ensures (c.in_ok-slots.ensures.same_length ∙ c.in_ok-variables.ensures) c.in_ok-progress.ensures

pub returns-clause-variables : goal.returns-clause-variables
returns-clause-variables c = c.in_ok-variables.ensures ∙ ap variable_count c.function_setting-setting.ensures
