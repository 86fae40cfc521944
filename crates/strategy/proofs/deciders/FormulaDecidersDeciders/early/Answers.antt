use Rattle.ematching.proofs.QuantifierLemmas.{free_grown}
use Rattle.ematching.proofs.HeadLemmas.{index_stays}
use Rattle.strategy.proofs.deciders.FormulaDecidersDeciders.early.Goals as goal

pub follow_entries-requires-clause-state : goal.follow_entries-requires-clause-state
follow_entries-requires-clause-state c = c.requires.knows.state

pub early_application-requires-clause-few : goal.early_application-requires-clause-few
early_application-requires-clause-few c = c.requires.knows.few

pub early_application-requires-clause-known : goal.early_application-requires-clause-known
early_application-requires-clause-known c = c.requires.knows.known

pub returns-clause-knows : goal.returns-clause-knows
returns-clause-knows c =
    let ns = c.args.pool.now in
    let ms = c.early_application.new.pool in
    let grown = c.early_application.ensures.extends in
    record {
      few = c.requires.knows.few;
      state = c.in_ok-found.ensures.state;
      heads = index_stays ns ms grown c.args.self.now.heads c.requires.knows.heads;
      quantifiers = free_grown ns ms c.args.self.now.quantifiers grown c.requires.knows.quantifiers;
      known = c.in_ok-found.ensures.known;
    }

pub returns-clause-due : goal.returns-clause-due
returns-clause-due c = c.in_ok-found.ensures.due
