use Rattle.std.proofs.Common.{nat_eq, ◌+◌, ◌*◌}
use Rattle.std.specs.HashMap.{get}
use Rattle.term_pool.specs.Pools.{Extends}
use Rattle.term_pool.specs.Values.{AreValues}
use Rattle.term_pool.proofs.PoolSubstitutionWalkLemmas.{IsStack, without}
use Rattle.term_pool.proofs.pool_substitution.put.put_in.Given as goal

abbrev pub invariant-loop-waiting : goal.invariant-loop-waiting
invariant-loop-waiting l = record {
  extends : Extends l.fn.pool l.pool;
  values : AreValues l.pool l.put (get nat_eq l.values);
  stack : IsStack (get nat_eq l.values) l.top l.waiting.items l.number;
}

abbrev pub decreases-loop-waiting : goal.decreases-loop-waiting
decreases-loop-waiting l = without (get nat_eq l.values) (l.top + 1) * (l.top + 1) + l.number
