use Rattle.std.proofs.Common.{◌∷◌, []}
use Rattle.tree_checks.specs.Steps.{first_branch}
use Rattle.tree_checks.proofs.ReadingLemmas.{IsReading}
use Rattle.tree_checks.proofs.partial.is_partial_tree.Given as goal

abbrev pub invariant-loop-application : goal.invariant-loop-application
invariant-loop-application l = IsReading l.shapes l.fn.pool l.pool (first_branch l.fn.pool l.denial ∷ []) l.applications l.tree.chain l.budget l.application-index l.walk l.left
