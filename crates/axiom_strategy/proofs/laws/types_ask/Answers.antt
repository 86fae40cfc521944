use Rattle.axiom_strategy.proofs.FamilyLemmas.{types_ask}
use Rattle.axiom_strategy.proofs.laws.types_ask.Goals as goal

pub returns : goal.returns
returns c = λ ns d terms typings askers one over are typed h. types_ask ns one d over terms are typings typed askers h
