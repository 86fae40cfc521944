use Rattle.tableau.specs.PoolBranches.{branch_in}
use Rattle.axiom_instances.specs.Numbers.{term_at}
use Rattle.axiom_strategy.proofs.DueLemmas.{one_number, of_no_terms, of_one_term}
use Rattle.axiom_strategy.proofs.due.generation.Goals as goal

pub returns-in-None : goal.returns-in-None
returns-in-None c = rw c.in-None.is (of_no_terms (branch_in c.args.pool.now c.args.branch.now))

pub generation-requires-clause-term : goal.generation-requires-clause-term
generation-requires-clause-term c = one_number (rw c.in-One.is at c.requires.terms)

pub returns-in-One : goal.returns-in-One
returns-in-One c =
    rw c.in-One.is (of_one_term (branch_in c.args.pool.now c.args.branch.now) (term_at c.args.pool.now c.in-One.term) c.generation.result c.generation.ensures)

pub greatest-requires-clause-terms : goal.greatest-requires-clause-terms
greatest-requires-clause-terms c = rw c.in-Two.is at c.requires.terms

pub returns-in-Two : goal.returns-in-Two
returns-in-Two c = rw c.in-Two.is c.greatest.ensures
