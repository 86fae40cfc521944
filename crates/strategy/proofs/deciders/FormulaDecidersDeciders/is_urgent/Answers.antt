use Rattle.strategy.proofs.deciders.FormulaDecidersDeciders.is_urgent.Goals as goal

pub follow-requires-clause-state : goal.follow-requires-clause-state
follow-requires-clause-state c = c.requires.knows.state

pub returns-clause-knows : goal.returns-clause-knows
returns-clause-knows c = record { few = c.requires.knows.few; state = c.in_ok-follow.ensures.state; heads = c.requires.knows.heads; quantifiers = c.requires.knows.quantifiers; known = c.requires.knows.known }
