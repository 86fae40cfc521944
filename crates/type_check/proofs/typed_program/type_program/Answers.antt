use Rattle.type_check.proofs.typed_program.type_program.Goals as goal

pub with_tables-requires-clause-determined : goal.with_tables-requires-clause-determined
with_tables-requires-clause-determined c = c.in_ok-typing.ensures.well.typed.determined
