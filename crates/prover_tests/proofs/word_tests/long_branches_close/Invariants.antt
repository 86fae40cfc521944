use Rattle.prover_tests.proofs.word_tests.long_branches_close.Given as goal

-- the ledger that each blank opens
abbrev pub ghosts-found : goal.ghosts-found
ghosts-found g a = record { name = a.blank.name; parts = a.blank.parts }
