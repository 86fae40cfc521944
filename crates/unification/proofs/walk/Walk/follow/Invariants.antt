use Rattle.std.proofs.Common.{length, reverse}
use Rattle.unification.specs.Walking.{IsWalk, IsOnWay, KeepsRanks, steps_left}
use Rattle.unification.proofs.walk.Walk.follow.Given as goal

abbrev pub invariant-loop-at : goal.invariant-loop-at
invariant-loop-at l = record {
  walk : IsWalk l.slots l.self.ranks.items l.self.order.items l.self.seen.items;
  way : IsOnWay l.slots l.start l.self.ranks.items (reverse l.self.way.items);
  keeps : KeepsRanks l.fn.self.ranks.items l.self.ranks.items;
}

abbrev pub decreases-loop-at : goal.decreases-loop-at
decreases-loop-at l = steps_left (length l.slots) l.self.ranks.items (reverse l.self.way.items)
