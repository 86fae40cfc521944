use Rattle.ematching.proofs.QuantifierLemmas.{free_grown}
use Rattle.ematching.proofs.instances.quantifiers.quantifiers_stay.Goals as goal

pub returns : goal.returns
returns c = free_grown
