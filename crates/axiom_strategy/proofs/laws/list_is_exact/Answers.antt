use Rattle.axiom_strategy.proofs.ListingLemmas.{listed_due, empty_exactly}
use Rattle.axiom_strategy.proofs.laws.list_is_exact.Goals as goal

pub returns-clause-due : goal.returns-clause-due
returns-clause-due c = listed_due

pub returns-clause-none : goal.returns-clause-none
returns-clause-none c = empty_exactly
