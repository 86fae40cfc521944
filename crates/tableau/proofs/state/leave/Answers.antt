use Rattle.std.proofs.Common.{refl}
use Rattle.tableau.proofs.StateLemmas.{state_cut}
use Rattle.tableau.proofs.state.leave.Goals as goal

pub returns-clause-state : goal.returns-clause-state
returns-clause-state c = λ ns h. state_cut ns c.args.state.now _ c.args.count h c.truncate.ensures.items (c.truncate-2.ensures ns c.args.state.now.entries.items h.variables) refl refl c.truncate-3.ensures.items
