use Rattle.tableau.specs.PoolBranches.{branch_in}
use Rattle.axiom_instances.specs.Numbers.{term_at}
use Rattle.axiom_strategy.proofs.DueLemmas.{left_number, right_number, left_lacks, right_lacks, both_generations}
use Rattle.axiom_strategy.proofs.due.greatest.Goals as goal

pub generation-requires-clause-term : goal.generation-requires-clause-term
generation-requires-clause-term c = left_number c.requires.terms

pub returns-in_default : goal.returns-in_default
returns-in_default c =
    let ns = c.args.pool.now in
    left_lacks (branch_in ns c.args.branch.now) (term_at ns c.args.left) (term_at ns c.args.right) c.in_default.ensures

pub generation-requires-2-clause-term : goal.generation-requires-2-clause-term
generation-requires-2-clause-term c = right_number c.requires.terms

pub returns-in_default-generation : goal.returns-in_default-generation
returns-in_default-generation c =
    let ns = c.args.pool.now in
    right_lacks (branch_in ns c.args.branch.now) (term_at ns c.args.left) (term_at ns c.args.right) c.in_default-generation.ensures

pub returns : goal.returns
returns c =
    let ns = c.args.pool.now in
    rw c.max.ensures (both_generations (branch_in ns c.args.branch.now) (term_at ns c.args.left) (term_at ns c.args.right) c.in-Some.one c.in-Some-generation.other c.in-Some.ensures c.in-Some-generation.ensures)
