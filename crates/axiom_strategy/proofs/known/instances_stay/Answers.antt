use Rattle.axiom_strategy.proofs.KnownLemmas.{known_stay}
use Rattle.axiom_strategy.proofs.known.instances_stay.Goals as goal

pub returns : goal.returns
returns c = known_stay
