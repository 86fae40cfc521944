use Rattle.prover_tests.proofs.searches.found.Given as goal

abbrev pub ghost-prove : goal.ghost-prove
ghost-prove g a = record { formula = a.formula.now; budget = a.budget }
