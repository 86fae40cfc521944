use Rattle.tableau.proofs.StateLemmas.{state_stays}
use Rattle.axiom_strategy.proofs.KnownLemmas.{known_stay}
use Rattle.ematching.proofs.QuantifierLemmas.{free_grown}
use Rattle.strategy.specs.Known.{shapes_of}
use Rattle.ematching.proofs.HeadLemmas.{index_stays}
use Rattle.strategy.proofs.deciders.FormulaDecidersDeciders.rows.Goals as goal

pub follow_with_variable-requires-clause-state : goal.follow_with_variable-requires-clause-state
follow_with_variable-requires-clause-state c = c.requires.knows.state

pub rows_answer-requires-clause-inside : goal.rows_answer-requires-clause-inside
rows_answer-requires-clause-inside c = c.in_ok-variable.ensures.state.inside

pub returns-clause-knows : goal.returns-clause-knows
returns-clause-knows c =
    let ns = c.args.pool.now in
    let ms = c.rows_answer.new.pool in
    let grown = c.rows_answer.ensures.extends in
    record {
      few = c.requires.knows.few;
      state = state_stays ns ms grown c.follow_with_variable.new.state c.in_ok-variable.ensures.state;
      heads = index_stays ns ms grown c.args.self.now.heads c.requires.knows.heads;
      quantifiers = free_grown ns ms c.args.self.now.quantifiers grown c.requires.knows.quantifiers;
      known = known_stay (shapes_of c.args.self.now) ns ms c.args.self.now.known grown c.requires.knows.known;
    }

pub returns-clause-shown : goal.returns-clause-shown
returns-clause-shown c = c.in_ok-found.ensures.shown (shapes_of c.args.self.now)
