use Rattle.tableau.proofs.EntryLemmas.{still_over}
use Rattle.tableau.specs.PoolBranches.{branch_in}
use Rattle.prover_tests.proofs.PresentLemmas.{no_parts_yet}
use Rattle.prover_tests.proofs.entered.due_parts.Goals as goal

pub next_parts-requires-clause-before : goal.next_parts-requires-clause-before
next_parts-requires-clause-before g c = no_parts_yet (branch_in c.args.pool.now c.args.branch.now)

pub returns : goal.returns
returns g c = still_over c.args.pool.now c.next_parts.new.pool c.next_parts.ensures.extends c.args.branch.now c.requires
