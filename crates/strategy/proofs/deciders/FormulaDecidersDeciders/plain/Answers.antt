use Rattle.tableau.proofs.StateLemmas.{state_stays}
use Rattle.strategy.proofs.deciders.FormulaDecidersDeciders.plain.Goals as goal

pub follow-requires-clause-state : goal.follow-requires-clause-state
follow-requires-clause-state c = c.requires.knows.state

pub plain_application-requires-clause-few : goal.plain_application-requires-clause-few
plain_application-requires-clause-few c = c.requires.knows.few

pub plain_application-requires-clause-index : goal.plain_application-requires-clause-index
plain_application-requires-clause-index c = c.requires.knows.heads

pub plain_application-requires-clause-free : goal.plain_application-requires-clause-free
plain_application-requires-clause-free c = c.requires.knows.quantifiers

pub plain_application-requires-clause-known : goal.plain_application-requires-clause-known
plain_application-requires-clause-known c = c.requires.knows.known

pub returns-clause-knows : goal.returns-clause-knows
returns-clause-knows c = record {
  few = c.requires.knows.few;
  state = state_stays c.args.pool.now c.plain_application.new.pool c.plain_application.ensures.extends c.follow.new.self c.in_ok-follow.ensures.state;
  heads = c.in_ok-found.ensures.index;
  quantifiers = c.in_ok-found.ensures.free;
  known = c.in_ok-found.ensures.known;
}

pub returns-clause-due : goal.returns-clause-due
returns-clause-due c = c.in_ok-found.ensures.due
