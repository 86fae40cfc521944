use Rattle.tree_checks.proofs.GrownReachedLemmas.{reached_is_grown}
use Rattle.tree_checks.proofs.grown.laws.reached_branches_are_grown.Goals as goal

pub returns : goal.returns
returns c = λ shapes p applications b h. reached_is_grown shapes p applications b h
