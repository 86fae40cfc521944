use Rattle.explanations.proofs.BranchLemmas.{said}
use Rattle.explanations.proofs.derived.laws.links_are_said.Goals as goal

pub returns : goal.returns
returns c = λ pool d chain classes over has. said pool d over classes chain has
