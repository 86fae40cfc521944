use Rattle.cases.proofs.report_lines.report_lines.Given as goal

-- the ledger that the blank opens
abbrev pub ghosts-verify : goal.ghosts-verify
ghosts-verify a = record { name = a.blank.name; parts = a.blank.parts }
