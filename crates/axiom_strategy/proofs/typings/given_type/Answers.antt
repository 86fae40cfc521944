use Rattle.axiom_strategy.proofs.TypingLemmas.{giving_answer, past_giving}
use Rattle.axiom_strategy.proofs.typings.given_type.Goals as goal

pub returns-in-Some : goal.returns-in-Some
returns-in-Some c = giving_answer c.args.pool.now c.args.formula c.in-Some.node c.given_of.result c.in-Some.ensures c.given_of.ensures

pub returns-in-None : goal.returns-in-None
returns-in-None c = past_giving c.args.pool.now c.args.formula c.in-None.ensures
