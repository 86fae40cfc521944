use Rattle.std.proofs.Common.{length}
use Rattle.congruence_closure.proofs.branch_classes.leaves.+is_among.Given as goal

abbrev pub decreases-is_among : goal.decreases-is_among
decreases-is_among l = length l.bound.now
