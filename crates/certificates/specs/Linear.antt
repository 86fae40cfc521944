-- Linear combinations of entries, read as rows over whole numbers. If nonnegative multiples of inequalities add up to
-- a false one, the inequalities have no common solution: the easy half of Farkas' lemma (A. Schrijver, Theory of
-- Linear and Integer Programming, section 7.3). All intermediate sums must fit 128 bits.
use Rattle.std.specs.Prelude.{◌≡◌, ℕ, suc, ◌^◌, ℤ, pos, negsuc, ◌+ℤ◌, ◌-ℤ◌, ◌*ℤ◌, Bool, true, false, nat_lt, List, [], ◌∷◌, slice_get, Option, Some, None, if◌then◌else◌, All}
use Rattle.fol.specs.declared.operators.Binary.TheVariants.{Add, Mul, Sub}
use Rattle.fol.specs.declared.operators.Comparison.TheVariants.{Eq, Le}
use Rattle.fol.specs.declared.operators.Constant.TheVariants.{Num}
use Rattle.fol.specs.FormulaData.{TermData, MulTerm, FormulaData, NotFormula, BinaryTerm, CompareFormula, ConstantTerm}
use Rattle.fol.specs.FormulaCodes.{term_code}
use Rattle.fol.specs.TreeOrder.{same_tree}
use Rattle.certificates.specs.declared.certificate.Multiple.{Multiple}

-- ---- arithmetic within 128 bits

-- the number, if it fits 128 bits: its absolute value is below 2^127
abbrev pub kept : ℤ → Option ℤ
kept (pos n) = if nat_lt n (2 ^ 127) then Some (pos n) else None
kept (negsuc n) = if nat_lt (suc n) (2 ^ 127) then Some (negsuc n) else None

-- an operation on two numbers, if all of them fit
abbrev pub kept_of : (ℤ → ℤ → ℤ) → Option ℤ → Option ℤ → Option ℤ
kept_of op None y = None
kept_of op (Some x) None = None
kept_of op (Some x) (Some y) = kept (op x y)

-- ---- terms as sums

-- whether two terms are equal
unfoldable pub same_term : TermData → TermData → Bool
same_term t u = same_tree (term_code t) (term_code u)

abbrev pub numeral_of : TermData → Option ℤ
numeral_of (ConstantTerm (Num i)) = Some i
numeral_of _ = None

-- a component of a sum: its constant part, or the coefficient of an unknown
abbrev pub Part : Type 0
Part = Option TermData

-- the weight of a numeral
abbrev pub numeral_weight : Part → ℤ → Option ℤ
numeral_weight None i = kept i
numeral_weight (Some unknown) i = Some (pos 0)

-- the weight of a term that is no sum
abbrev pub unknown_weight : Part → TermData → Option ℤ
unknown_weight None t = Some (pos 0)
unknown_weight (Some unknown) t = if same_term t unknown then Some (pos 1) else Some (pos 0)

-- the weight of a product: it is linear if one factor is a numeral, and else an unknown
abbrev pub product_weight : Option ℤ → Option ℤ → Option ℤ → Option ℤ → Option ℤ → Option ℤ
product_weight (Some c) right weight_left weight_right weight_whole = kept_of ◌*ℤ◌ (Some c) weight_right
product_weight None (Some c) weight_left weight_right weight_whole = kept_of ◌*ℤ◌ (Some c) weight_left
product_weight None None weight_left weight_right weight_whole = weight_whole

-- the constant part of a term as a sum, or the coefficient of an unknown in it
abbrev pub weight : Part → TermData → Option ℤ
weight part (ConstantTerm (Num i)) = numeral_weight part i
weight part (BinaryTerm Add t u) = kept_of ◌+ℤ◌ (weight part t) (weight part u)
weight part (BinaryTerm Sub t u) = kept_of ◌-ℤ◌ (weight part t) (weight part u)
weight part (BinaryTerm Mul t u) =
    product_weight (numeral_of t) (numeral_of u) (weight part t) (weight part u) (unknown_weight part (MulTerm t u))
weight part t = unknown_weight part t

-- ---- entries as rows

-- a row, or linear constraint: the first term plus the gap is at most the second, or the terms are equal numbers
pub record Row : Type 0 where
  pub lesser : TermData
  pub greater : TermData
  pub gap : ℤ
  pub is_equation : Bool

-- the row of a negated entry, if it is one
abbrev pub negated_row_of : FormulaData → Option Row
negated_row_of (CompareFormula Le t u) = Some (record { lesser = u; greater = t; gap = pos 1; is_equation = false })
negated_row_of _ = None

abbrev pub row_of : FormulaData → Option Row
row_of (CompareFormula Le t u) = Some (record { lesser = t; greater = u; gap = pos 0; is_equation = false })
row_of (CompareFormula Eq t u) = Some (record { lesser = t; greater = u; gap = pos 0; is_equation = true })
row_of (NotFormula p) = negated_row_of p
row_of _ = None

abbrev pub row_of_entry : Option FormulaData → Option Row
row_of_entry None = None
row_of_entry (Some p) = row_of p

abbrev pub gap_weight : Part → ℤ → Option ℤ
gap_weight None gap = Some gap
gap_weight (Some unknown) gap = Some (pos 0)

-- the row as a sum that is at most 0, or 0: the lesser minus the greater, plus the gap
abbrev pub row_weight : Part → Option Row → Option ℤ
row_weight part None = None
row_weight part (Some row) =
    kept_of ◌+ℤ◌ (kept_of ◌-ℤ◌ (weight part row.lesser) (weight part row.greater)) (gap_weight part row.gap)

-- ---- combinations

-- the sum of the rows times their multipliers, added to the total so far, in order
abbrev pub combined : Part → List FormulaData → Option ℤ → List Multiple → Option ℤ
combined part entries sum [] = sum
combined part entries sum (m ∷ ms) =
    combined part entries (kept_of ◌+ℤ◌ sum (kept_of ◌*ℤ◌ (Some m.multiplier) (row_weight part (row_of_entry (slice_get entries m.entry))))) ms

abbrev pub total : Part → List FormulaData → List Multiple → Option ℤ
total part entries ms = combined part entries (Some (pos 0)) ms

-- the multipliers that are allowed: numbers from 0 on for an inequality, any for an equation
abbrev pub MayMultiply : Option Row → ℤ → Type 0
MayMultiply None m = ⊥
MayMultiply (Some row) (pos n) = Unit {0}
MayMultiply (Some row) (negsuc n) = row.is_equation ≡ true

-- the multiple of an entry is allowed in a combination
abbrev pub MayCount : List FormulaData → Multiple → Type 0
MayCount entries m = MayMultiply (row_of_entry (slice_get entries m.entry)) m.multiplier

-- the combination is the contradiction that a positive number is at most 0
pub record IsContradiction (entries : List FormulaData) (ms : List Multiple) : Type 0 where
  pub rows : All (MayCount entries) ms
  pub cancelled : (unknown : TermData) → total (Some unknown) entries ms ≡ Some (pos 0)
  pub positive : (n : ℕ) × (total None entries ms ≡ Some (pos (suc n)))
