use Rattle.tableau.proofs.EntryLemmas.{still_over}
use Rattle.tableau.specs.PoolBranches.{branch_in}
use Rattle.prover_tests.proofs.PresentLemmas.{when_ok, no_name_yet}
use Rattle.prover_tests.proofs.entered.due_name.Goals as goal

pub next_name-requires-clause-before : goal.next_name-requires-clause-before
next_name-requires-clause-before g c = no_name_yet (branch_in c.args.pool.now c.args.branch.now)

pub returns-clause-over : goal.returns-clause-over
returns-clause-over g c = still_over c.args.pool.now c.next_name.new.pool c.next_name.ensures.extends c.args.branch.now c.requires.over

pub returns-clause-above : goal.returns-clause-above
returns-clause-above g c = when_ok _ c.next_name.result _ c.expect.ensures c.next_name.ensures.above
