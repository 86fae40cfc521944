use Rattle.front_end.proofs.StageLaws.{program_laws}
use Rattle.front_end.proofs.files.one_outcome.Goals as goal

pub returns-clause-program : goal.returns-clause-program
returns-clause-program c =
    (program_laws (record { one_spelling = c.one_spelling.ensures; one_offset = c.spelled_or_bad.ensures.one_offset; one_source = c.one_source.ensures; one_program = c.one_program.ensures })).one

pub returns-clause-either : goal.returns-clause-either
returns-clause-either c =
    (program_laws (record { one_spelling = c.one_spelling.ensures; one_offset = c.spelled_or_bad.ensures.one_offset; one_source = c.one_source.ensures; one_program = c.one_program.ensures })).either

pub returns-clause-stop : goal.returns-clause-stop
returns-clause-stop c =
    (program_laws (record { one_spelling = c.one_spelling.ensures; one_offset = c.spelled_or_bad.ensures.one_offset; one_source = c.one_source.ensures; one_program = c.one_program.ensures })).stop
