-- The row of a true entry holds, and true entries have no contradiction.
use Rattle.std.proofs.Common.{◌≡◌, ℕ, zero, suc, ℤ, pos, negsuc, ◌+ℤ◌, ◌-ℤ◌, ◌*ℤ◌, ◌≤ℤ◌, ◌<ℤ◌, List, [], ◌∷◌, Option, Some, None, true, false, not, slice_get, refl, sym, ap, ◌∙◌, subst, arith}
use Rattle.std.specs.Prelude.{All, int_le}
use Rattle.std.proofs.lemmas.List.Elements.{All-head, All-tail}
use Rattle.std.proofs.lemmas.Int.{ints}
use lib.IntN.{*ℤ-zero, *ℤ_comm, pos-*ℤ-negsuc}
use Rattle.fol.specs.declared.operators.Binary.TheVariants.{Add, Mul, Sub}
use Rattle.fol.specs.declared.operators.Comparison.TheVariants.{Eq, Le}
use Rattle.fol.specs.declared.operators.Constant.TheVariants.{Num}
use Rattle.fol.specs.FormulaData.{TermData, MulTerm, FormulaData, NotFormula, BinaryTerm, CompareFormula, ConstantTerm}
use Rattle.fol.specs.Val.{same_value-equal}
use Rattle.fol.specs.Operators.{number_of}
use Rattle.fol.specs.Truth.{Interpretation, Assignment, value_of, truth_of}
use Rattle.certificates.specs.declared.certificate.Multiple.{Multiple}
use Rattle.certificates.specs.Linear.{numeral_of, Row, row_of, row_of_entry, MayMultiply, MayCount, IsContradiction}
use Rattle.certificates.proofs.Sums.{Values, sum_of, sum_product}
use Rattle.certificates.proofs.Contradiction.{row_sum, row_at, rows_sum, combination_value}

-- ---- the number of a term is its value as a sum

product_number : (t u : TermData) (a b d : ℤ) (v w : ℤ) → ((c : ℤ) → numeral_of t ≡ Some c → v ≡ c) → ((c : ℤ) → numeral_of u ≡ Some c → w ≡ c) → v ≡ a → w ≡ b → d ≡ v *ℤ w → (l r : Option ℤ) → numeral_of t ≡ l → numeral_of u ≡ r → v *ℤ w ≡ sum_product l r a b d
product_number t u a b d v w left right e f g (Some c) r h k = (λ i. left c h i *ℤ f i)
product_number t u a b d v w left right e f g None (Some c) h k = *ℤ_comm v w ∙ (λ i. right c k i *ℤ e i)
product_number t u a b d v w left right e f g None None h k = sym g

module _ (m : Interpretation) (s : Assignment) where
  abbrev pub numbers : Values
  numbers t = number_of (value_of m t s)

  numeral_number : (t : TermData) (c : ℤ) → numeral_of t ≡ Some c → numbers t ≡ c
  numeral_number (ConstantTerm (Num i)) c e = cc
  numeral_number t c e = absurd (cc)

  pub number_is_sum : (t : TermData) → numbers t ≡ sum_of numbers t
  number_is_sum (ConstantTerm (Num i)) = refl
  number_is_sum (BinaryTerm Add t u) = λ i. number_is_sum t i +ℤ number_is_sum u i
  number_is_sum (BinaryTerm Sub t u) = λ i. number_is_sum t i -ℤ number_is_sum u i
  number_is_sum (BinaryTerm Mul t u) =
      product_number t u (sum_of numbers t) (sum_of numbers u) (numbers (MulTerm t u)) (numbers t) (numbers u) (numeral_number t) (numeral_number u) (number_is_sum t) (number_is_sum u) refl (numeral_of t) (numeral_of u) refl refl
  number_is_sum t = refl

  -- ---- the row of a true entry is at most 0, and 0 for an equation

  pub record RowHolds (row : Row) : Type 0 where
    pub at_most_zero : row_sum numbers (Some row) ≤ℤ pos 0
    pub is_zero : row.is_equation ≡ true → row_sum numbers (Some row) ≡ pos 0

  le_holds : (a b : ℤ) → int_le a b ≡ true → a ≤ℤ b
  le_holds a b e = grind (arith, ints)

  not_le_holds : (a b : ℤ) → not (int_le a b) ≡ true → b <ℤ a
  not_le_holds a b e = grind (arith, ints)

  inequality : (t u : TermData) (gap : ℤ) → (numbers t +ℤ gap) ≤ℤ numbers u → RowHolds (record { lesser = t; greater = u; gap = gap; is_equation = false })
  inequality t u gap h =
      let l = number_is_sum t in
      let g = number_is_sum u in
      record { at_most_zero = omega (arith, ints, h, l, g); is_zero = λ e. absurd (cc) }

  equation : (t u : TermData) → numbers t ≡ numbers u → RowHolds (record { lesser = t; greater = u; gap = pos 0; is_equation = true })
  equation t u h =
      let l = number_is_sum t in
      let g = number_is_sum u in
      record { at_most_zero = omega (arith, ints, h, l, g); is_zero = λ e. omega (arith, ints, h, l, g) }

  negated_row : (p : FormulaData) (row : Row) → row_of (NotFormula p) ≡ Some row → truth_of m (NotFormula p) s ≡ true → RowHolds row
  negated_row (CompareFormula Le t u) row e h =
      let below = not_le_holds (numbers t) (numbers u) h in
      let same : record { lesser = u; greater = t; gap = pos 1; is_equation = false } ≡ row = cc in
      subst RowHolds same (inequality u t (pos 1) (omega (arith, ints, below)))
  negated_row p row e h = absurd (cc)

  pub row_holds : (p : FormulaData) (row : Row) → row_of p ≡ Some row → truth_of m p s ≡ true → RowHolds row
  row_holds (CompareFormula Le t u) row e h =
      let below = le_holds (numbers t) (numbers u) h in
      let same : record { lesser = t; greater = u; gap = pos 0; is_equation = false } ≡ row = cc in
      subst RowHolds same (inequality t u (pos 0) (omega (arith, ints, below)))
  row_holds (CompareFormula Eq t u) row e h =
      let same : record { lesser = t; greater = u; gap = pos 0; is_equation = true } ≡ row = cc in
      subst RowHolds same (equation t u (ap number_of (same_value-equal (value_of m t s) (value_of m u s) h)))
  row_holds (NotFormula p) row e h = negated_row p row e h
  row_holds p row e h = absurd (cc)

-- ---- multiples of true rows add up to at most 0

pos_times : (n : ℕ) (z : ℤ) → z ≤ℤ pos 0 → (pos n *ℤ z) ≤ℤ pos 0
pos_times n (pos zero) h = let e = *ℤ-zero (pos n) in omega (arith, ints, e)
pos_times n (pos (suc k)) h = absurd (omega (arith, ints, h))
pos_times n (negsuc k) h = let e = pos-*ℤ-negsuc n k in omega (arith, ints, e)

times : (row : Row) (k z : ℤ) → z ≤ℤ pos 0 → (row.is_equation ≡ true → z ≡ pos 0) → MayMultiply (Some row) k → (k *ℤ z) ≤ℤ pos 0
times row (pos n) z h e may = pos_times n z h
times row (negsuc n) z h e may =
    let none : negsuc n *ℤ z ≡ pos 0 = ap (λ y. negsuc n *ℤ y) (e may) ∙ *ℤ-zero (negsuc n) in
    omega (arith, ints, none)

module _ (m : Interpretation) (s : Assignment) where
  -- each entry is true
  abbrev pub AreTrue : List FormulaData → Type 0
  AreTrue entries = (k : ℕ) (p : FormulaData) → slice_get entries k ≡ Some p → truth_of m p s ≡ true

  row_times : (o : Option FormulaData) (k : ℤ) → ((p : FormulaData) → o ≡ Some p → truth_of m p s ≡ true) → (r : Option Row) → row_of_entry o ≡ r → MayMultiply r k → (k *ℤ row_sum (numbers m s) r) ≤ℤ pos 0
  row_times o k h None e may = absurd may
  row_times None k h (Some row) e may = absurd (cc)
  row_times (Some p) k h (Some row) e may =
      let holds = row_holds m s p row e (h p refl) in
      times row k (row_sum (numbers m s) (Some row)) holds.at_most_zero holds.is_zero may

  rows_at_most_zero : (entries : List FormulaData) (ms : List Multiple) → AreTrue entries → All (MayCount entries) ms → rows_sum (numbers m s) entries ms ≤ℤ pos 0
  rows_at_most_zero entries [] t may = omega (arith, ints)
  rows_at_most_zero entries (x ∷ ms) t may =
      let first = row_times (slice_get entries x.entry) x.multiplier (t x.entry) (row_at entries x) refl (All-head (MayCount entries) x ms may) in
      let rest = rows_at_most_zero entries ms t (All-tail (MayCount entries) x ms may) in
      omega (arith, ints, first, rest)

  -- the entries of a contradiction are not all true
  pub contradiction_false : (entries : List FormulaData) (ms : List Multiple) → AreTrue entries → IsContradiction entries ms → ⊥
  contradiction_false entries ms t h =
      let most = rows_at_most_zero entries ms t h.rows in
      let value = combination_value entries ms (pos (suc h.positive.0)) (numbers m s) h.cancelled h.positive.1 in
      omega (arith, ints, most, value)
