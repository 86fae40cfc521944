use Rattle.tableau.proofs.StateLemmas.{state_stays}
use Rattle.strategy.proofs.deciders.FormulaDecidersDeciders.near.Goals as goal

pub follow-requires-clause-state : goal.follow-requires-clause-state
follow-requires-clause-state c = c.requires.knows.state

pub near_application-requires-clause-few : goal.near_application-requires-clause-few
near_application-requires-clause-few c = c.requires.knows.few

pub near_application-requires-clause-index : goal.near_application-requires-clause-index
near_application-requires-clause-index c = c.requires.knows.heads

pub near_application-requires-clause-free : goal.near_application-requires-clause-free
near_application-requires-clause-free c = c.requires.knows.quantifiers

pub near_application-requires-clause-known : goal.near_application-requires-clause-known
near_application-requires-clause-known c = c.requires.knows.known

pub returns-clause-knows : goal.returns-clause-knows
returns-clause-knows c = record {
  few = c.requires.knows.few;
  state = state_stays c.args.pool.now c.near_application.new.pool c.near_application.ensures.extends c.follow.new.self c.in_ok-follow.ensures.state;
  heads = c.in_ok-found.ensures.index;
  quantifiers = c.in_ok-found.ensures.free;
  known = c.in_ok-found.ensures.known;
}

pub returns-clause-due : goal.returns-clause-due
returns-clause-due c = c.in_ok-found.ensures.due
