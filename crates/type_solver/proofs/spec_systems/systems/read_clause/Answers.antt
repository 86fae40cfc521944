use Rattle.std.proofs.Common.{◌≡◌, ◌∙◌, length, ap}
use Rattle.typing_rules.specs.SpecConstraints.{spec_variable_count}
use Rattle.type_constraints.specs.Blocks.{block_of}
use Rattle.type_constraints.specs.Seen.{seen_all}
use Rattle.type_constraints.specs.SpecSettings.{names_of, owner_types, setting_of}
use Rattle.type_solver.proofs.Walks.{count_known}
use Rattle.type_solver.proofs.SpecSystemsWhole.{clause_variables, clause_walked}
use Rattle.type_solver.proofs.spec_systems.systems.read_clause.Goals as goal

pub returns-clause-walked : goal.returns-clause-walked
returns-clause-walked c =
    let s = setting_of c.in_ok-setting.setting in
    let count : c.index-first.result.now ≡ spec_variable_count s = count_known s c.in_ok-firsts.firsts.items c.len.result c.index-first.result.now c.in_ok-firsts.ensures.len c.len.ensures c.index-first.ensures c.in_ok-firsts.ensures.count in
    clause_walked c.args.program.now (names_of c.args.names) (block_of c.args.block) (owner_types c.args.names.owner) c.args.clause.now s c.index-first.result.now c.form_arguments.result (length c.in_ok-slots.slots.items) (seen_all c.deref-2.result.now) c.read_steps.new.slots.items c.in_ok-progress.progress
    c.in_ok-setting.ensures count c.form_arguments.ensures (c.in_ok-slots.ensures.same_length ∙ c.in_ok-variables.ensures) (ap seen_all c.deref-2.ensures.value ∙ c.in_ok-whole.ensures) c.in_ok-progress.ensures

pub returns-clause-variables : goal.returns-clause-variables
returns-clause-variables c =
    let s = setting_of c.in_ok-setting.setting in
    let count : c.index-first.result.now ≡ spec_variable_count s = count_known s c.in_ok-firsts.firsts.items c.len.result c.index-first.result.now c.in_ok-firsts.ensures.len c.len.ensures c.index-first.ensures c.in_ok-firsts.ensures.count in
    clause_variables c.args.program.now (names_of c.args.names) (block_of c.args.block) (owner_types c.args.names.owner) c.args.clause.now s c.index-first.result.now c.form_arguments.result c.in_ok-variables.variables
    c.in_ok-setting.ensures count c.form_arguments.ensures c.in_ok-variables.ensures
