use Rattle.std.proofs.Common.{◌≤◌}
use Rattle.std.specs.Prelude.{All}
use Rattle.congruence_closure.specs.Numbers.{StandsIn}
use Rattle.congruence_closure.proofs.branch_classes.walk.unknown_lists.Given as goal

abbrev pub invariant-loop-next : goal.invariant-loop-next
invariant-loop-next l = record {
  all : All (λ it. it ≤ l.list) l.lists.items;
  within : l.rest ≤ l.list;
  all_inside : All (λ it. StandsIn l.pool it l.list) l.lists.items;
  inside : StandsIn l.pool l.rest l.list;
}

abbrev pub decreases-loop-next : goal.decreases-loop-next
decreases-loop-next l = l.rest
