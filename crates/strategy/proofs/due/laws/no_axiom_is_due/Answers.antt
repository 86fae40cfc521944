use Rattle.strategy.proofs.PlainLemmas.{no_axiom}
use Rattle.strategy.proofs.due.laws.no_axiom_is_due.Goals as goal

pub returns : goal.returns
returns c = no_axiom
