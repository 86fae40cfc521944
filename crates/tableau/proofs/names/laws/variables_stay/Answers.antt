use Rattle.tableau.proofs.VariablesLemmas.{above_grown}
use Rattle.tableau.proofs.names.laws.variables_stay.Goals as goal

pub returns-clause-grown : goal.returns-clause-grown
returns-clause-grown c ns ms d v grown over = above_grown ns ms grown d over v
