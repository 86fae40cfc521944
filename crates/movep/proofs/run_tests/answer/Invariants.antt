use Rattle.movep.proofs.run_tests.answer.Given as goal

-- the ledger that the blank opens
abbrev pub ghosts-run : goal.ghosts-run
ghosts-run g a = record { name = a.blank.name; parts = a.blank.parts }
