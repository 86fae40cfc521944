-- The result for rows without a solution.
use Rattle.std.specs.Prelude.{List}
use Rattle.fol.specs.declared.shapes.Shape.{Shape}
use Rattle.term_pool.specs.declared.node.Node.{Node}
use Rattle.certificates.specs.BranchesBranch.{Branch}
use Rattle.certificates.specs.ProofTraces.{IsFull}
use Rattle.search.specs.Decisions.{IsClosingDue}
use Rattle.closing_rules.specs.declared.row_closings.end.RowsEnd.{RowsEnd}
use Rattle.closing_rules.specs.declared.row_closings.end.RowsEnd.TheVariants.{Closes, TooLong}

abbrev pub ShowsEnd : List Shape → List Node → Branch → RowsEnd → Type 0
ShowsEnd shapes ns b (Closes closing) = IsClosingDue shapes ns b closing
ShowsEnd shapes ns b TooLong = IsFull shapes b
