use Rattle.closing_rules.specs.Depths.{AreLowBefore}
use Rattle.closing_rules.proofs.class_closings.depth.are_low.Given as goal

abbrev pub invariant-loop-i : goal.invariant-loop-i
invariant-loop-i l = AreLowBefore l.pool l.branch l.i
