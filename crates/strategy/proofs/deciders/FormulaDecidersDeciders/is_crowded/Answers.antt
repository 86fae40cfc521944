use Rattle.tableau.specs.PoolBranches.{branch_in}
use Rattle.strategy.proofs.StateLemmas.{crowded_test}
use Rattle.strategy.proofs.deciders.FormulaDecidersDeciders.is_crowded.Goals as goal

pub follow_above-requires-clause-state : goal.follow_above-requires-clause-state
follow_above-requires-clause-state c = c.requires.knows.state

pub returns-clause-knows : goal.returns-clause-knows
returns-clause-knows c = record { few = c.requires.knows.few; state = c.in_ok-above.ensures.state; heads = c.requires.knows.heads; quantifiers = c.requires.knows.quantifiers; known = c.requires.knows.known }

pub returns-clause-crowded : goal.returns-clause-crowded
returns-clause-crowded c = crowded_test (branch_in c.args.pool.now c.args.branch.now) c.is_past.result c.in_ok-above.above c.in_ok-above.ensures.is c.is_past.ensures
