use Rattle.movep.proofs.run_tests.a_slow_sink_takes_all.Given as goal

-- the ledger that the blank opens
abbrev pub ghosts-run : goal.ghosts-run
ghosts-run g a = record { name = a.blank.name; parts = a.blank.parts }
