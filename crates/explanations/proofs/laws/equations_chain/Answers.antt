use Rattle.explanations.proofs.InstanceLemmas.{chained}
use Rattle.explanations.proofs.laws.equations_chain.Goals as goal

pub returns : goal.returns
returns c = chained
