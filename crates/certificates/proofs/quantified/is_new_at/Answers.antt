use Rattle.certificates.specs.Branch.{entries_of, entry_formula}
use Rattle.certificates.proofs.QuantifiedLemmas.{new_at, none_at}
use Rattle.certificates.proofs.quantified.is_new_at.Goals as goal

pub returns-in-Some : goal.returns-in-Some
returns-in-Some c = λ p. new_at c.args.variable (entries_of c.args.branch.now) c.args.index (entry_formula c.in-Some.entry) p _ c.requires.within c.in-Some.ensures c.is_without.ensures

pub returns-in-None : goal.returns-in-None
returns-in-None c = λ p. none_at _ (entries_of c.args.branch.now) c.args.index p c.requires.within c.in-None.ensures
