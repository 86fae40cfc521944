use Rattle.prover_tests.proofs.entered.found_of.Goals as goal

pub enter-requires : goal.enter-requires
enter-requires g c = c.new-branch.ensures.over c.new-pool.result

pub first-position-requires : goal.first-position-requires
first-position-requires g c = c.truncate.ensures.over c.enter-3.new.pool c.enter-3.ensures.over
