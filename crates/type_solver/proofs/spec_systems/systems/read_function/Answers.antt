use Rattle.std.proofs.Common.{◌≡◌, ◌∙◌, length}
use Rattle.typing_rules.specs.SpecConstraints.{spec_variable_count}
use Rattle.type_constraints.specs.Seen.{seen}
use Rattle.type_constraints.specs.SpecSettings.{setting_of}
use Rattle.type_solver.proofs.Walks.{count_known}
use Rattle.type_solver.proofs.SpecSystemsWhole.{function_variables, function_walked}
use Rattle.type_solver.proofs.spec_systems.systems.read_function.Goals as goal

pub returns-clause-walked : goal.returns-clause-walked
returns-clause-walked c =
    let s = setting_of c.in_ok-setting.setting in
    let count : c.index-variables.result.now ≡ spec_variable_count s = count_known s c.in_ok-firsts.firsts.items c.len.result c.index-variables.result.now c.in_ok-firsts.ensures.len c.len.ensures c.index-variables.ensures c.in_ok-firsts.ensures.count in
    function_walked c.args.program.now c.args.function.now s (length c.in_ok-slots.slots.items) (seen c.returned-whole.result) c.read_steps.new.slots.items c.in_ok-progress.progress
    c.in_ok-setting.ensures (c.in_ok-slots.ensures.same_length ∙ count) c.returned-whole.ensures c.in_ok-progress.ensures

pub returns-clause-variables : goal.returns-clause-variables
returns-clause-variables c =
    let s = setting_of c.in_ok-setting.setting in
    let count : c.index-variables.result.now ≡ spec_variable_count s = count_known s c.in_ok-firsts.firsts.items c.len.result c.index-variables.result.now c.in_ok-firsts.ensures.len c.len.ensures c.index-variables.ensures c.in_ok-firsts.ensures.count in
    function_variables c.args.program.now c.args.function.now s c.index-variables.result.now c.in_ok-setting.ensures count
