use Rattle.tableau.proofs.NamesLaterLemmas.{names_stay}
use Rattle.tableau.proofs.names.laws.names_stay_done.Goals as goal

pub returns : goal.returns
returns c = names_stay
