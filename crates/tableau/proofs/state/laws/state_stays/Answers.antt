use Rattle.tableau.proofs.StateLemmas.{state_stays}
use Rattle.tableau.proofs.state.laws.state_stays.Goals as goal

pub returns : goal.returns
returns c = λ ns ms s grown h. state_stays ns ms grown s h
