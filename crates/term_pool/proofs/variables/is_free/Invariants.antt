use Rattle.std.proofs.Common.{nat_eq, length, ◌+◌, ◌*◌}
use Rattle.std.specs.HashSet.{contains}
use Rattle.term_pool.proofs.MemberLemmas.{unseen}
use Rattle.term_pool.proofs.VariablesWalkLemmas.{IsWalk}
use Rattle.term_pool.proofs.variables.is_free.Given as goal

abbrev pub invariant-loop-number : goal.invariant-loop-number
invariant-loop-number l = IsWalk l.pool l.variable l.top (contains nat_eq l.seen) l.waiting.items

abbrev pub decreases-loop-number : goal.decreases-loop-number
decreases-loop-number l = 4 * unseen (contains nat_eq l.seen) (length l.pool) + length l.waiting.items
