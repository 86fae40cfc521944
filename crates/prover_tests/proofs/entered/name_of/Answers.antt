use Rattle.prover_tests.proofs.entered.name_of.Goals as goal

pub due_name-requires-clause-above : goal.due_name-requires-clause-above
due_name-requires-clause-above g c = c.new-variables.ensures c.branch_of-branch.new.pool c.branch_of-branch.result.entries
