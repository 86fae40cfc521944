use Rattle.std.proofs.Common.{reverse}
use Rattle.base.specs.Walking.{IsWalk, IsSeen, KeepsSeen, left}
use Rattle.base.proofs.cycles.walk.Walk.follow.Given as goal

abbrev pub invariant-loop-visit : goal.invariant-loop-visit
invariant-loop-visit l = record {
  walk : IsWalk l.graph l.self.marks.items l.self.order.items (reverse l.self.path.items);
  root : IsSeen l.self.marks.items l.root;
  seen : KeepsSeen l.fn.self.marks.items l.self.marks.items;
}

abbrev pub decreases-loop-visit : goal.decreases-loop-visit
decreases-loop-visit l = left l.graph l.self.marks.items (reverse l.self.path.items)
