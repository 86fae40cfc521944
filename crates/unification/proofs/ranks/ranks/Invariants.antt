use Rattle.std.proofs.Common.{◌≡◌, ◌<◌, ℕ, []}
use Rattle.unification.specs.Ranked.{rank_at}
use Rattle.unification.specs.Walking.{IsWalk}
use Rattle.unification.proofs.ranks.ranks.Given as goal

abbrev pub invariant-loop-start : goal.invariant-loop-start
invariant-loop-start l = record {
  walk : IsWalk l.slots l.walk.ranks.items l.walk.order.items l.walk.seen.items;
  empty : l.walk.way.items ≡ [];
  ranked : (p : ℕ) → p < l.start → 0 < rank_at l.walk.ranks.items p;
}
