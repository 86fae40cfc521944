use Rattle.prover_tests.proofs.class_tests.classes_of.Goals as goal

pub loop-entry-init : goal.loop-entry-init
loop-entry-init g c = c.new-classes.ensures.over c.args.pool.now
