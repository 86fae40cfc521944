use Rattle.std.proofs.Common.{◌≡◌, ◌<◌, ℕ, []}
use Rattle.base.specs.Walking.{IsWalk, IsSeen}
use Rattle.base.proofs.cycles.walk.walk_all.Given as goal

abbrev pub invariant-loop-root : goal.invariant-loop-root
invariant-loop-root l = record {
  walk : IsWalk l.graph l.walk.marks.items l.walk.order.items [];
  path : l.walk.path.items ≡ [];
  seen : (i : ℕ) → i < l.root → IsSeen l.walk.marks.items i;
}
