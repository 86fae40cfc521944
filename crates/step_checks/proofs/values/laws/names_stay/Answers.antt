use Rattle.step_checks.proofs.StayLemmas.{names_before, names_after}
use Rattle.step_checks.proofs.values.laws.names_stay.Goals as goal

pub returns : goal.returns
returns c = λ ns ms d class names grown one over. (names_after ns ms grown one d over class names, names_before ns ms grown one d over class names)
