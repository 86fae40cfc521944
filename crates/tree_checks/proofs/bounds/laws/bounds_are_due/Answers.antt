use Rattle.tree_checks.proofs.DueLemmas.{bound_due}
use Rattle.tree_checks.proofs.bounds.laws.bounds_are_due.Goals as goal

pub returns : goal.returns
returns c = λ shapes ns b i t k v given h says shallow. bound_due shapes ns b i t k v given h says shallow
