use Rattle.std.proofs.Common.{[]}
use Rattle.tableau.proofs.StateLemmas.{state_begun}
use Rattle.tableau.proofs.state.BranchState.new.Goals as goal

pub returns : goal.returns
returns c = λ ns. state_begun ns _ c.new.ensures.items c.new-5.ensures.items (c.new-2.ensures ns []) (c.new-3.ensures.over ns) (c.new-3.ensures.inside ns) c.new-4.ensures.items c.new-3.ensures.entries
