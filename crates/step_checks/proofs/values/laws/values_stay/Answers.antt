use Rattle.step_checks.proofs.StayLemmas.{met_before, met_after, valued_before, valued_after}
use Rattle.step_checks.proofs.values.laws.values_stay.Goals as goal

pub returns-clause-met : goal.returns-clause-met
returns-clause-met c = λ ns ms d v grown one over. (met_after ns ms grown one d over v, met_before ns ms grown one d over v)

pub returns-clause-valued : goal.returns-clause-valued
returns-clause-valued c = λ ns ms d v grown one over. (valued_after ns ms grown one d over v, valued_before ns ms grown one d over v)
