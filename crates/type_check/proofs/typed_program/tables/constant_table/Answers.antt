use Rattle.typing_rules.specs.CodeSystems.{constant_system}
use Rattle.type_check.proofs.typed_program.tables.constant_table.Goals as goal

pub code_table-requires : goal.code_table-requires
code_table-requires c = (constant_system c.args.program.now c.args.constant.now, c.args.constant.now.value.nodes, c.requires.settled, c.in_ok-typing.ensures.says)

pub returns : goal.returns
returns c = c.code_table.ensures (constant_system c.args.program.now c.args.constant.now) c.args.constant.now.value.nodes c.in_ok-typing.ensures.says
