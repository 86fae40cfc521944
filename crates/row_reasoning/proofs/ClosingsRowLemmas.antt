-- Rows with the chosen term for each class have the numbers of the rows over classes; rows with swapped sides have the
-- opposite numbers.
use Rattle.std.proofs.Common.{◌≡◌, ℕ, ℤ, pos, ◌+ℤ◌, ◌-ℤ◌, Bool, true, false, List, Some, None, refl, sym, ap, ◌∙◌, arith}
use Rattle.std.specs.Prelude.{slice_get}
use Rattle.std.proofs.lemmas.Int.{ints}
use Rattle.fol.specs.declared.operators.Comparison.TheVariants.{Eq, Le}
use Rattle.fol.specs.FormulaData.{TermData, VarTerm, FormulaData, CompareFormula, NotFormula}
use Rattle.certificates.specs.Linear.{kept, kept_of, Part, numeral_weight, unknown_weight, weight, Row, row_of, gap_weight, row_weight}
use Rattle.certificates.specs.Unknowns.{EachUnknown}
use Rattle.certificates.proofs.Sums.{Kept, kept_of_exact}
use Rattle.certificates.proofs.KeptLemmas.{row_fits}
use Rattle.certificates.specs.Rows.{over, comparison_with, IsEntryRow, Fits, Leaves, IsKnown, turned}
use Rattle.row_reasoning.specs.Rows.{turned_if}
use Rattle.row_reasoning.specs.Sums.{signed}
use Rattle.row_reasoning.proofs.KeptLemmas.{kept_itself, signed_fits, zero_fits}
use Rattle.row_reasoning.specs.Chosen.{IsNoSum, with_chosen}
use Rattle.row_reasoning.proofs.WeightLemmas.{same_weight, nothing, nothing_weight}

-- ---- the row of a comparison

abbrev pub with_sides : (TermData → TermData) → Row → Row
with_sides side row = record { lesser = side row.lesser; greater = side row.greater; gap = row.gap; is_equation = row.is_equation }

pub row_with : (side : TermData → TermData) (p : FormulaData) (row : Row) → row_of p ≡ Some row → row_of (comparison_with side p) ≡ Some (with_sides side row)
row_with side (CompareFormula Eq t u) row e = let same : record { lesser = t; greater = u; gap = pos 0; is_equation = true } ≡ row = cc in ap (λ r. Some (with_sides side r)) same
row_with side (CompareFormula Le t u) row e = let same : record { lesser = t; greater = u; gap = pos 0; is_equation = false } ≡ row = cc in ap (λ r. Some (with_sides side r)) same
row_with side (NotFormula (CompareFormula Le t u)) row e = let same : record { lesser = u; greater = t; gap = pos 1; is_equation = false } ≡ row = cc in ap (λ r. Some (with_sides side r)) same
row_with side (NotFormula (CompareFormula Eq t u)) row e = absurd (cc)
row_with side (NotFormula _) row e = absurd (cc)
row_with side _ row e = absurd (cc)

-- the row of an entry that has one is that of its comparison over classes
pub entry_row : (class : TermData → ℕ) (p : FormulaData) (row : Row) → IsEntryRow class p (Some row) → row_of (comparison_with (over class) p) ≡ Some row
entry_row class p row (Fits f e) = e
entry_row class p row (Leaves f e) = absurd (cc)

-- an equation has no gap
pub equation_gap : (p : FormulaData) (row : Row) → row_of p ≡ Some row → row.is_equation ≡ true → row.gap ≡ pos 0
equation_gap (CompareFormula Eq t u) row e q = let same : record { lesser = t; greater = u; gap = pos 0; is_equation = true } ≡ row = cc in ap (λ (r : Row). r.gap) (sym same)
equation_gap (CompareFormula Le t u) row e q = absurd (
    let same : record { lesser = t; greater = u; gap = pos 0; is_equation = false } ≡ row = cc in
    let never : false ≡ true = ap (λ (r : Row). r.is_equation) same ∙ q in
    cc)
equation_gap (NotFormula (CompareFormula Le t u)) row e q = absurd (
    let same : record { lesser = u; greater = t; gap = pos 1; is_equation = false } ≡ row = cc in
    let never : false ≡ true = ap (λ (r : Row). r.is_equation) same ∙ q in
    cc)
equation_gap (NotFormula (CompareFormula Eq t u)) row e q = absurd (cc)
equation_gap (NotFormula _) row e q = absurd (cc)
equation_gap _ row e q = absurd (cc)

-- ---- the numbers of a row

-- the unknowns of both sides are known
pub record AreKnownSides (classes : List ℕ) (row : Row) : Type 0 where
  pub lesser : EachUnknown (IsKnown classes) row.lesser
  pub greater : EachUnknown (IsKnown classes) row.greater

pub same_row : (classes : List ℕ) (chosen : ℕ → TermData) → ((k n : ℕ) → slice_get classes k ≡ Some n → IsNoSum (chosen n)) → (p q : Part) → ((i : ℤ) → numeral_weight q i ≡ numeral_weight p i) → ((i : ℤ) → gap_weight q i ≡ gap_weight p i) → ((k n : ℕ) → slice_get classes k ≡ Some n → unknown_weight q (chosen n) ≡ unknown_weight p (VarTerm n)) → (row : Row) → AreKnownSides classes row → row_weight q (Some (with_sides (with_chosen chosen) row)) ≡ row_weight p (Some row)
same_row classes chosen no_sum p q numerals gaps unknowns row h = λ i. kept_of ◌+ℤ◌ (kept_of ◌-ℤ◌ (same_weight classes chosen no_sum p q numerals unknowns row.lesser h.lesser i) (same_weight classes chosen no_sum p q numerals unknowns row.greater h.greater i)) (gaps row.gap i)

pub nothing_row : (classes : List ℕ) (row : Row) → AreKnownSides classes row → row_weight nothing (Some row) ≡ Some (pos 0)
nothing_row classes row h =
    (λ i. kept_of ◌+ℤ◌ (kept_of ◌-ℤ◌ (nothing_weight classes row.lesser h.lesser i) (nothing_weight classes row.greater h.greater i)) (Some (pos 0)))
    ∙ ap (λ o. kept_of ◌+ℤ◌ o (Some (pos 0))) zero
    ∙ zero
  where
    zero : kept (pos 0) ≡ Some (pos 0)
    zero = kept_itself (pos 0) zero_fits

-- ---- a row with swapped sides

no_gap : (part : Part) (row : Row) → row.gap ≡ pos 0 → gap_weight part row.gap ≡ Some (pos 0)
no_gap None row e = ap Some e
no_gap (Some u) row e = refl

turned_weight : (part : Part) (row : Row) (c : ℤ) → row.gap ≡ pos 0 → row_weight part (Some (turned row)) ≡ Some c → row_weight part (Some row) ≡ Some (pos 0 -ℤ c)
turned_weight part row c e f =
    (λ i. kept_of ◌+ℤ◌ (kept_of ◌-ℤ◌ (sides.is_right i) (sides.is_left i)) (no_gap part row e i))
    ∙ ap (λ z. kept_of ◌+ℤ◌ (kept z) (Some (pos 0))) difference
    ∙ ap (λ o. kept_of ◌+ℤ◌ o (Some (pos 0))) fitting
    ∙ ap kept (none_more (pos 0 -ℤ c))
    ∙ fitting
  where
    whole : Kept ◌+ℤ◌ (kept_of ◌-ℤ◌ (weight part row.greater) (weight part row.lesser)) (gap_weight part row.gap) c
    whole = kept_of_exact ◌+ℤ◌ (kept_of ◌-ℤ◌ (weight part row.greater) (weight part row.lesser)) (gap_weight part row.gap) c f

    sides : Kept ◌-ℤ◌ (weight part row.greater) (weight part row.lesser) whole.left
    sides = kept_of_exact ◌-ℤ◌ (weight part row.greater) (weight part row.lesser) whole.left whole.is_left

    gap : whole.right ≡ pos 0
    gap = let both : Some whole.right ≡ Some (pos 0) = sym whole.is_right ∙ no_gap part row e in cc

    total : whole.left +ℤ pos 0 ≡ c
    total = ap (λ z. whole.left +ℤ z) (sym gap) ∙ whole.exact

    opposite : (g l x y : ℤ) → g -ℤ l ≡ x → x +ℤ pos 0 ≡ y → l -ℤ g ≡ pos 0 -ℤ y
    opposite g l x y a b = omega (arith, ints, a, b)

    difference : sides.right -ℤ sides.left ≡ pos 0 -ℤ c
    difference = opposite sides.left sides.right whole.left c sides.exact total

    fitting : kept (pos 0 -ℤ c) ≡ Some (pos 0 -ℤ c)
    fitting = kept_itself (pos 0 -ℤ c) (signed_fits true c (row_fits part (Some (turned row)) c f))

    none_more : (z : ℤ) → z +ℤ pos 0 ≡ z
    none_more z = omega (arith, ints)

pub stated_weight : (part : Part) (row : Row) (is_turned : Bool) (c : ℤ) → (is_turned ≡ true → row.gap ≡ pos 0) → row_weight part (Some (turned_if is_turned row)) ≡ Some c → row_weight part (Some row) ≡ Some (signed is_turned c)
stated_weight part row false c e f = f
stated_weight part row true c e f = turned_weight part row c (e refl) f
