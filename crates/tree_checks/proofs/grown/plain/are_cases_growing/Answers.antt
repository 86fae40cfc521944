use Rattle.tableau.specs.PoolBranches.{branch_in}
use Rattle.search.specs.declared.trees.application.Reason.TheVariants.{Split}
use Rattle.tree_checks.proofs.GrowthLemmas.{other_generation, due_tells}
use Rattle.tree_checks.proofs.GrownTruthLemmas.{refuted}
use Rattle.tree_checks.proofs.grown.plain.are_cases_growing.Goals as goal

pub returns-then-not-own-clause-exact : goal.returns-then-not-own-clause-exact
returns-then-not-own-clause-exact c = λ shapes. (
    let ns = c.args.pool.now in
    other_generation shapes ns (branch_in ns c.args.branch.now) c.args.extension.now (Split c.args.entry) c.requires.reason c.requires.numbers (refuted c.is_own-own.result c.if-not-own.true (c.is_own-own.ensures ns)))

pub returns-clause-exact : goal.returns-clause-exact
returns-clause-exact c = λ shapes. (
    let ns = c.args.pool.now in
    due_tells shapes ns (branch_in ns c.args.branch.now) c.args.extension.now (Split c.args.entry) c.requires.reason c.requires.numbers ((c.is_own-own.ensures ns).0 c.if-not-own.false) c.in_ok-known.known (rw c.as_slice.ensures.value at c.in_ok-known.ensures.exact))
