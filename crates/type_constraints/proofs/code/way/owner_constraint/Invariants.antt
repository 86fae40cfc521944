use Rattle.std.proofs.Common.{◌≡◌, ◌≤◌, ◌<◌, ◌+◌, length}
use Rattle.typing_rules.specs.CodeConstraints.{owner_constraints}
use Rattle.type_constraints.specs.Ways.{otherwise}
use Rattle.type_constraints.proofs.code.way.owner_constraint.Given as goal

abbrev pub invariant-loop-next : goal.invariant-loop-next
invariant-loop-next l = record {
  within : l.at < length l.body.nodes;
  above : l.at ≤ l.left;
  same : owner_constraints (otherwise l.behind) l.body.nodes (l.left + 1) l.at ≡ owner_constraints (otherwise l.behind) l.body.nodes (l.owner + 1) l.owner;
}

abbrev pub decreases-loop-next : goal.decreases-loop-next
decreases-loop-next l = l.left
