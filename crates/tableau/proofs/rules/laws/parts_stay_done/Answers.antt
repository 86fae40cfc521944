use Rattle.tableau.proofs.RulesLaterLemmas.{parts_stay}
use Rattle.tableau.proofs.rules.laws.parts_stay_done.Goals as goal

pub returns : goal.returns
returns c = parts_stay
