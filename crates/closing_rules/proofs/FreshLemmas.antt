-- Classes some of which have no term: a variable that occurs nowhere is added to each of these.
use Rattle.std.proofs.Common.{◌≡◌, ℕ, ◌+◌, ◌-◌, ◌≤◌, max, Bool, true, false, cond, nat_lt, List, [], ◌∷◌, Option, Some, refl, sym, ap, ◌∙◌, subst, arith}
use Rattle.std.specs.Prelude.{slice_get}
use Rattle.std.specs.List.{AllZip}
use Rattle.std.proofs.lemmas.Bool.{ltb-true, lt-ltb}
use Rattle.fol.specs.declared.operators.Binary.TheVariants.{Add, Mul, Sub}
use Rattle.fol.specs.declared.operators.Constant.TheVariants.{Num}
use Rattle.fol.specs.FormulaData.{TermData, VarTerm, ConstantTerm, BinaryTerm, AddTerm, SubTerm, MulTerm, FormulaData, CompareFormula, NotFormula}
use Rattle.certificates.specs.Linear.{numeral_of, Row, row_of}
use Rattle.linear_arith.specs.Inequality.{Inequality}
use Rattle.certificates.specs.Names.{above_term, above}
use Rattle.certificates.specs.Rows.{over, product_over, comparison_with, FitsRow, IsEntryRow, Fits, Leaves}
use Rattle.row_reasoning.specs.Rows.{IsRowFrom}
use Rattle.row_reasoning.specs.declared.rows.RowOrigin.{RowOrigin}

-- the variables from v on are in the classes from 0 on
abbrev pub with_fresh : ℕ → (TermData → ℕ) → TermData → ℕ
with_fresh v class (VarTerm m) = cond (nat_lt m v) (class (VarTerm m)) (m - v)
with_fresh v class t = class t

module _ (v : ℕ) (class : TermData → ℕ) where
  pub fresh_class : (n : ℕ) → with_fresh v class (VarTerm (v + n)) ≡ n
  fresh_class n = at (nat_lt (v + n) v) refl
    where
      at : (b : Bool) → nat_lt (v + n) v ≡ b → cond b (class (VarTerm (v + n))) ((v + n) - v) ≡ n
      at true e = absurd (let l = ltb-true (v + n) v e in omega (arith, l))
      at false e = omega arith

  pub same_class : (t : TermData) → above_term t ≤ v → with_fresh v class t ≡ class t
  same_class (VarTerm m) h = ap (λ b. cond b (class (VarTerm m)) (m - v)) (lt-ltb m v (omega (arith, h)))
  same_class _ h = refl

  left : (m n : ℕ) → max m n ≤ v → m ≤ v
  left m n h = omega (arith, h)

  right : (m n : ℕ) → max m n ≤ v → n ≤ v
  right m n h = omega (arith, h)

  same_over : (t : TermData) → above_term t ≤ v → over (with_fresh v class) t ≡ over class t
  same_over (VarTerm m) h = ap VarTerm (same_class (VarTerm m) h)
  same_over (ConstantTerm (Num i)) h = refl
  same_over (ConstantTerm _) h = refl
  same_over (BinaryTerm Add t u) h = λ i. AddTerm (same_over t (left (above_term t) (above_term u) h) i) (same_over u (right (above_term t) (above_term u) h) i)
  same_over (BinaryTerm Sub t u) h = λ i. SubTerm (same_over t (left (above_term t) (above_term u) h) i) (same_over u (right (above_term t) (above_term u) h) i)
  same_over (BinaryTerm Mul t u) h = λ i. product_over (numeral_of t) (numeral_of u) (MulTerm (same_over t (left (above_term t) (above_term u) h) i) (same_over u (right (above_term t) (above_term u) h) i)) (VarTerm (class (MulTerm t u)))
  same_over (BinaryTerm _ t u) h = refl
  same_over _ h = refl

  same_comparison : (p : FormulaData) → above p ≤ v → comparison_with (over (with_fresh v class)) p ≡ comparison_with (over class) p
  same_comparison (CompareFormula o t u) h = λ i. CompareFormula o (same_over t (left (above_term t) (above_term u) h) i) (same_over u (right (above_term t) (above_term u) h) i)
  same_comparison (NotFormula (CompareFormula o t u)) h = λ i. NotFormula (CompareFormula o (same_over t (left (above_term t) (above_term u) h) i) (same_over u (right (above_term t) (above_term u) h) i))
  same_comparison (NotFormula _) h = refl
  same_comparison _ h = refl

  same_row : (p : FormulaData) (row : Option Row) → above p ≤ v → IsEntryRow class p row → IsEntryRow (with_fresh v class) p row
  same_row p row h (Fits f e) = Fits (subst FitsRow (sym (same_comparison p h)) f) (ap row_of (same_comparison p h) ∙ e)
  same_row p row h (Leaves f e) = Leaves (λ g. f (subst FitsRow (same_comparison p h) g)) e

  -- all variables of these formulas are below v
  pub record AreBelowIt (ps : List FormulaData) : Type 0 where
    pub each : (i : ℕ) (p : FormulaData) → slice_get ps i ≡ Some p → above p ≤ v

  pub same_from : (ps : List FormulaData) → AreBelowIt ps → (classes : List ℕ) (row : Inequality) (origin : RowOrigin) → IsRowFrom class ps classes row origin → IsRowFrom (with_fresh v class) ps classes row origin
  same_from ps below classes row origin h = record {
    formula = h.formula;
    found = h.found;
    stated = h.stated;
    stated_is = same_row h.formula (Some h.stated) (below.each origin.entry h.formula h.found) h.stated_is;
    is_row = h.is_row;
    equation = h.equation;
  }

  pub all_from : (ps : List FormulaData) → AreBelowIt ps → (classes : List ℕ) (rows : List Inequality) (origins : List RowOrigin) → AllZip (IsRowFrom class ps classes) rows origins → AllZip (IsRowFrom (with_fresh v class) ps classes) rows origins
  all_from ps below classes [] [] h = h
  all_from ps below classes [] (o ∷ os) h = absurd h
  all_from ps below classes (r ∷ rs) [] h = absurd h
  all_from ps below classes (r ∷ rs) (o ∷ os) h = (same_from ps below classes r o h.0, all_from ps below classes rs os h.1)
