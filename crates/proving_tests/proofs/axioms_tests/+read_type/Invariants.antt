use Rattle.proving_tests.proofs.axioms_tests.+read_type.Given as goal

abbrev pub decreases-read_type : goal.decreases-read_type
decreases-read_type l = l.fuel
