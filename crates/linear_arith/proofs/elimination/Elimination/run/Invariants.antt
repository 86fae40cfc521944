use Rattle.std.proofs.Common.{◌-◌, length}
use Rattle.linear_arith.specs.Stages.{IsUnderWay, IsCaughtUp, KeepsStages}
use Rattle.linear_arith.proofs.elimination.Elimination.run.Given as goal

abbrev pub invariant-loop-unknown : goal.invariant-loop-unknown
invariant-loop-unknown l = record {
  under_way : IsUnderWay l.system.width l.system.rows.now l.self;
  stages : KeepsStages l.self;
  caught_up : IsCaughtUp l.system.width l.system.rows.now l.self;
}

abbrev pub decreases-loop-unknown : goal.decreases-loop-unknown
decreases-loop-unknown l = l.system.width - length l.self.unknowns.items
