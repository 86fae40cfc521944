use Rattle.explanations.proofs.InstanceLemmas.{turned}
use Rattle.explanations.proofs.laws.equations_turn.Goals as goal

pub returns : goal.returns
returns c = turned
