use Rattle.prover_tests.proofs.text_tests.values_leave_a_branch_open.Given as goal

-- the ledger that each blank opens
abbrev pub ghosts-found : goal.ghosts-found
ghosts-found g a = record { name = a.blank.name; parts = a.blank.parts }
