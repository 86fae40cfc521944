use Rattle.std.proofs.Common.{take}
use Rattle.tree_checks.specs.Chosen.{ArePadded}
use Rattle.tree_checks.proofs.bounds.chosen.padded_rows.Given as goal

abbrev pub invariant-loop-row : goal.invariant-loop-row
invariant-loop-row l = ArePadded l.width (take l.row-index l.rows) l.made
