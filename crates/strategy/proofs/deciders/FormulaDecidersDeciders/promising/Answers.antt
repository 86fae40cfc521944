use Rattle.tableau.proofs.StateLemmas.{state_stays}
use Rattle.axiom_strategy.proofs.KnownLemmas.{known_stay}
use Rattle.ematching.proofs.QuantifierLemmas.{free_grown}
use Rattle.strategy.specs.Known.{shapes_of}
use Rattle.ematching.proofs.HeadLemmas.{index_stays}
use Rattle.strategy.proofs.deciders.FormulaDecidersDeciders.promising.Goals as goal

pub follow-requires-clause-state : goal.follow-requires-clause-state
follow-requires-clause-state c = c.requires.knows.state

pub returns-clause-knows : goal.returns-clause-knows
returns-clause-knows c =
    let ns = c.args.pool.now in
    let ms = c.promising_application.new.pool in
    let grown = c.promising_application.ensures.extends in
    record {
      few = c.requires.knows.few;
      state = state_stays ns ms grown c.follow.new.self c.in_ok-follow.ensures.state;
      heads = index_stays ns ms grown c.args.self.now.heads c.requires.knows.heads;
      quantifiers = free_grown ns ms c.args.self.now.quantifiers grown c.requires.knows.quantifiers;
      known = known_stay (shapes_of c.args.self.now) ns ms c.args.self.now.known grown c.requires.knows.known;
    }

pub returns-clause-due : goal.returns-clause-due
returns-clause-due c = c.in_ok-found.ensures.due (shapes_of c.args.self.now) c.requires.late
