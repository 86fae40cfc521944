use Rattle.std.proofs.Common.{refl}
use Rattle.strategy.proofs.MarkLemmas.{variables_followed}
use Rattle.strategy.proofs.StateLemmas.{state_above}
use Rattle.strategy.proofs.following.follow_above.Goals as goal

pub above_all-requires-clause-above : goal.above_all-requires-clause-above
above_all-requires-clause-above c = variables_followed c.args.pool.now c.args.branch.now c.follow_entries.new.self c.in_ok-follow_entries.ensures.state c.in_ok-follow_entries.ensures.follows

pub returns-clause-state : goal.returns-clause-state
returns-clause-state c = state_above c.args.pool.now c.args.branch.now c.follow_entries.new.self _ refl refl refl refl c.in_ok-follow_entries.ensures.state c.in_ok-follow_entries.ensures.follows c.in_ok-above.ensures.above
