use Rattle.tableau.proofs.EntryLemmas.{still_over}
use Rattle.tableau.specs.PoolBranches.{branch_in}
use Rattle.prover_tests.proofs.PresentLemmas.{no_split_yet}
use Rattle.prover_tests.proofs.entered.due_split.Goals as goal

pub next_split-requires-clause-before : goal.next_split-requires-clause-before
next_split-requires-clause-before g c = no_split_yet (branch_in c.args.pool.now c.args.branch.now)

pub returns : goal.returns
returns g c = still_over c.args.pool.now c.next_split.new.pool c.next_split.ensures.extends c.args.branch.now c.requires
