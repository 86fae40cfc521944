use Rattle.tableau.proofs.PushLemmas.{over_still, says_still}
use Rattle.tableau.proofs.laws.branch_stays.Goals as goal

pub returns-clause-over : goal.returns-clause-over
returns-clause-over c ns ms d grown over = over_still ns ms grown d over

pub returns-clause-says : goal.returns-clause-says
returns-clause-says c ns ms d grown over = says_still ns ms grown d.entries over.formulas
