-- The components and rows of the checker as pure data.
use Rattle.std.specs.Prelude.{Some, None}
use Rattle.certificates.specs.Linear as sums
use Rattle.certificates.specs.declared.linear.Part.{Part}
use Rattle.certificates.specs.declared.linear.Part.TheVariants.{Constant, Coefficient}
use Rattle.certificates.specs.declared.linear.Row.{Row}

-- none for the constant part, and else the unknown
abbrev pub part_of : Part → sums.Part
part_of Constant = None
part_of (Coefficient t) = Some t.now

abbrev pub row_data : Row → sums.Row
row_data r = record { lesser = r.lesser.now; greater = r.greater.now; gap = r.gap; is_equation = r.is_equation }
