use Rattle.std.proofs.Common.{arith}
use Rattle.tableau.proofs.StateLemmas.{state_stays}
use Rattle.axiom_strategy.proofs.KnownLemmas.{known_stay}
use Rattle.ematching.proofs.QuantifierLemmas.{free_grown}
use Rattle.search.proofs.ApplicationLemmas.{length_in}
use Rattle.strategy.specs.Known.{shapes_of}
use Rattle.ematching.proofs.HeadLemmas.{index_stays}
use Rattle.strategy.proofs.deciders.FormulaDecidersDeciders.closing.Goals as goal

pub follow_with_variable-requires-clause-state : goal.follow_with_variable-requires-clause-state
follow_with_variable-requires-clause-state c = c.requires.knows.state

pub closing-requires-clause-inside : goal.closing-requires-clause-inside
closing-requires-clause-inside c = c.in_ok-variable.ensures.state.inside

pub closing-requires-clause-short : goal.closing-requires-clause-short
closing-requires-clause-short c = (let w = c.requires.room.entry in omega (arith, w, length_in c.args.pool.now c.args.branch.now))

pub returns-in-Some-clause-knows : goal.returns-in-Some-clause-knows
returns-in-Some-clause-knows c = c.requires.knows

pub returns-in-Some-clause-shown : goal.returns-in-Some-clause-shown
returns-in-Some-clause-shown c = c.literal_closing-closing.ensures (shapes_of c.args.self.now)

pub literal_closing-closing-requires-clause-short : goal.literal_closing-closing-requires-clause-short
literal_closing-closing-requires-clause-short c = (let w = c.requires.room.entry in omega (arith, w, length_in c.args.pool.now c.args.branch.now))

pub returns-clause-knows : goal.returns-clause-knows
returns-clause-knows c =
    let ns = c.args.pool.now in
    let ms = c.closing.new.pool in
    let grown = c.closing.ensures.extends in
    record {
      few = c.requires.knows.few;
      state = state_stays ns ms grown c.follow_with_variable.new.state c.in_ok-variable.ensures.state;
      heads = index_stays ns ms grown c.args.self.now.heads c.requires.knows.heads;
      quantifiers = free_grown ns ms c.args.self.now.quantifiers grown c.requires.knows.quantifiers;
      known = known_stay (shapes_of c.args.self.now) ns ms c.args.self.now.known grown c.requires.knows.known;
    }

pub returns-clause-shown : goal.returns-clause-shown
returns-clause-shown c = c.in_ok-answer.ensures.shown (shapes_of c.args.self.now)
