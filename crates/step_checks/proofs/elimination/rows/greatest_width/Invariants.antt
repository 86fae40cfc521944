use Rattle.std.proofs.Common.{◌≡◌, max, drop}
use Rattle.step_checks.specs.Given.{width_of}
use Rattle.step_checks.proofs.elimination.rows.greatest_width.Given as goal

abbrev pub invariant-loop-row : goal.invariant-loop-row
invariant-loop-row l = max l.width (width_of (drop l.row-index l.rows)) ≡ width_of l.rows
