use Rattle.typing_rules.specs.Clauses.{spec_function_system}
use Rattle.type_check.proofs.typed_program.tables.spec_function_table.Goals as goal

pub spec_table-requires : goal.spec_table-requires
spec_table-requires c = (spec_function_system c.args.program.now c.args.function.now, c.requires.settled, c.in_ok-typing.ensures.says)

pub returns : goal.returns
returns c = c.spec_table.ensures (spec_function_system c.args.program.now c.args.function.now) c.in_ok-typing.ensures.says
