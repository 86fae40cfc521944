use Rattle.axiom_strategy.proofs.decisions.orders.generation.Goals as goal

pub generation-requires : goal.generation-requires
generation-requires c = record { over = c.requires.over; term = c.requires.term.number }

pub returns-in-None : goal.returns-in-None
returns-in-None c = absurd (c.in-None.ensures.none c.requires.term.stands)
