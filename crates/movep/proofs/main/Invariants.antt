use Rattle.movep.proofs.main.Given as goal

-- the ledger that the blank opens
abbrev pub ghosts-verify : goal.ghosts-verify
ghosts-verify a = record { name = a.blank.name; parts = a.blank.parts }
