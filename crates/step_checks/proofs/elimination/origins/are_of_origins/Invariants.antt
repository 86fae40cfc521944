use Rattle.std.proofs.Common.{ℕ, ◌<◌, take, get_or}
use Rattle.step_checks.specs.Given.{IsOfOrigin}
use Rattle.step_checks.specs.declared.elimination.GivenRow.{GivenRow}
use Rattle.step_checks.proofs.elimination.origins.are_of_origins.Given as goal

abbrev pub invariant-loop-k : goal.invariant-loop-k
invariant-loop-k l = (k : ℕ) (d : GivenRow) → k < l.k → IsOfOrigin l.width l.rows l.unknowns (take k l.made) (get_or l.made k d).origin (get_or l.made k d).row
