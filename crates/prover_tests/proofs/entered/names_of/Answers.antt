use Rattle.prover_tests.proofs.entered.names_of.Goals as goal

pub enter-requires : goal.enter-requires
enter-requires g c = c.new-branch.ensures.over c.new-pool.result

pub due_name-part-requires-clause-over : goal.due_name-part-requires-clause-over
due_name-part-requires-clause-over g c = c.leave.ensures.over c.due_name-whole.new.pool c.due_name-whole.ensures.over
