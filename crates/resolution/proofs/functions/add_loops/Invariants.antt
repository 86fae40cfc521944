use Rattle.std.proofs.Common.{drop, zip}
use Rattle.resolution.specs.Setting.{scope_of}
use Rattle.resolution.proofs.LoopLaws.{LoopsSoFar}
use Rattle.resolution.proofs.functions.add_loops.Given as goal

abbrev pub invariant-loop-index : goal.invariant-loop-index
invariant-loop-index l = LoopsSoFar (scope_of l.context) l.outcome (zip l.scopes l.loops) (zip (drop l.index l.scopes) (drop l.index l.loops)) l.initial.into l.into
