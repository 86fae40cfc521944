-- The unknowns of a term as a sum: the terms in it that are no sum, no difference, no numeral, and no product with a
-- numeral.
use Rattle.std.specs.Prelude.{◌≡◌, ℤ, pos, List, slice_get, Option, Some, None}
use Rattle.fol.specs.declared.operators.Binary.TheVariants.{Add, Mul, Sub}
use Rattle.fol.specs.declared.operators.Constant.TheVariants.{Num}
use Rattle.fol.specs.FormulaData.{TermData, MulTerm, FormulaData, BinaryTerm, ConstantTerm}
use Rattle.certificates.specs.declared.certificate.Multiple.{Multiple}
use Rattle.certificates.specs.Linear.{numeral_of, Row, row_of_entry, total}

-- the unknowns of a product
abbrev pub EachOfProduct : Option ℤ → Option ℤ → Type 0 → Type 0 → Type 0 → Type 0
EachOfProduct (Some c) right left_has right_has whole_has = right_has
EachOfProduct None (Some c) left_has right_has whole_has = left_has
EachOfProduct None None left_has right_has whole_has = whole_has

-- each unknown of the term has the property
abbrev pub EachUnknown : (TermData → Type 0) → TermData → Type 0
EachUnknown P (ConstantTerm (Num i)) = Unit {0}
EachUnknown P (BinaryTerm Add t u) = EachUnknown P t × EachUnknown P u
EachUnknown P (BinaryTerm Sub t u) = EachUnknown P t × EachUnknown P u
EachUnknown P (BinaryTerm Mul t u) =
    EachOfProduct (numeral_of t) (numeral_of u) (EachUnknown P t) (EachUnknown P u) (P (MulTerm t u))
EachUnknown P t = P t

-- an unknown cancels in the combination
abbrev pub IsGone : List FormulaData → List Multiple → TermData → Type 0
IsGone entries ms unknown = total (Some unknown) entries ms ≡ Some (pos 0)

-- the unknowns of a row cancel
abbrev pub RowGone : List FormulaData → List Multiple → Option Row → Type 0
RowGone entries ms None = ⊥
RowGone entries ms (Some row) = EachUnknown (IsGone entries ms) row.lesser × EachUnknown (IsGone entries ms) row.greater

-- the unknowns of the row of an entry cancel
abbrev pub Cancels : List FormulaData → List Multiple → Multiple → Type 0
Cancels entries ms m = RowGone entries ms (row_of_entry (slice_get entries m.entry))
