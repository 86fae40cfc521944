use Rattle.tableau.proofs.RulesLaterLemmas.{splits_stay}
use Rattle.tableau.proofs.rules.laws.splits_stay_done.Goals as goal

pub returns : goal.returns
returns c = splits_stay
