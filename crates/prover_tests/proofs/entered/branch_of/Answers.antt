use Rattle.prover_tests.proofs.entered.branch_of.Goals as goal

pub loop-entry-init : goal.loop-entry-init
loop-entry-init g c = c.new-branch.ensures.over c.args.pool.now
