use Rattle.std.proofs.Common.{length}
use Rattle.tree_checks.proofs.texts.steps.resume.Given as goal

abbrev pub decreases-loop-step : goal.decreases-loop-step
decreases-loop-step l = length l.steps.items
