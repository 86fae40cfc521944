use Rattle.step_checks.proofs.ShownLemmas.{shows}
use Rattle.step_checks.proofs.elimination.laws.given_eliminations_are_complete.Goals as goal

pub returns : goal.returns
returns c = λ rows given g. shows rows given g
