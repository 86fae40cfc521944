use Rattle.step_checks.proofs.ShownLemmas.{chosen}
use Rattle.step_checks.proofs.elimination.laws.given_values_are_chosen.Goals as goal

pub returns : goal.returns
returns c = λ rows given values g. chosen rows given values g
