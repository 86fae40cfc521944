use Rattle.explanations.proofs.InstanceLemmas.{replaced}
use Rattle.explanations.proofs.laws.equals_for_equals.Goals as goal

pub returns : goal.returns
returns c = replaced
