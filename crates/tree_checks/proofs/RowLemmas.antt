-- The rows of a branch over classes: their numbers are determined, up to zeros at their ends.
use Rattle.std.proofs.Common.{◌≡◌, inl, inr, ℕ, suc, ◌≤◌, Bool, true, false, pos, ◌-ℤ◌, List, [], ◌∷◌, length, get_or, Option, Some, None, refl, sym, ap, ◌∙◌, subst, arith}
use Rattle.std.specs.List.{AllZip}
use Rattle.std.proofs.lemmas.Bool.{cases_lt}
use Rattle.std.proofs.lemmas.Int.{ints}
use Rattle.std.proofs.lemmas.List.{get_or_past}
use Rattle.std.proofs.lemmas.List.Elements.{All-nil, All-cons}
use Rattle.std.proofs.lemmas.Option.{slice_get-get_or}
use Rattle.fol.specs.FormulaData.{TermData, FormulaData}
use Rattle.certificates.specs.Linear.{Row}
use Rattle.linear_arith.specs.Inequality.{Inequality, IsWithinWidth}
use Rattle.certificates.specs.BranchesBranch.{Branch, formulas}
use Rattle.certificates.specs.Rows.{IsEntryRow, Fits, Leaves, IsRowOf, turned, BeginsWith, AreRowsOf, AreBranchRows}
use Rattle.tree_checks.specs.Chosen.{HaveSameNumbers}

-- ---- the rows of one entry

some_is : {X : Type 0} {x y : X} → Some x ≡ Some y → x ≡ y
some_is e = cc

row_alike : (classes : List ℕ) (row : Row) (r s : Inequality) → IsRowOf classes row r → IsRowOf classes row s → HaveSameNumbers r s
row_alike classes row r s h k = record {
  coefficients = λ j. elim (cases_lt j (length classes)) [
    | inl l ↦ (let found = slice_get-get_or classes j 0 l in some_is (sym (h.coefficients j (get_or classes j 0) found) ∙ k.coefficients j (get_or classes j 0) found))
    | inr l ↦ get_or_past r.coefficients j (pos 0) (let few = h.few in omega (arith, l, few)) ∙ sym (get_or_past s.coefficients j (pos 0) (let few = k.few in omega (arith, l, few)))
  ];
  bound = (let e : pos 0 -ℤ r.bound ≡ pos 0 -ℤ s.bound = some_is (sym h.bound ∙ k.bound) in omega (arith, ints, e));
}

row_again : (classes : List ℕ) (row : Row) (r s : Inequality) → HaveSameNumbers r s → length s.coefficients ≤ length classes → IsRowOf classes row r → IsRowOf classes row s
row_again classes row r s same few h = record {
  lesser = h.lesser;
  greater = h.greater;
  few = few;
  coefficients = λ k n found. h.coefficients k n found ∙ ap Some (same.coefficients k);
  bound = h.bound ∙ ap (λ z. Some (pos 0 -ℤ z)) same.bound;
}

module _ (classes : List ℕ) (row : Row) (more : List (Option Row)) where
  begun_alike : (rest : (xs ys : List Inequality) → AreRowsOf classes more xs → AreRowsOf classes more ys → AllZip HaveSameNumbers xs ys) (b : Bool) (rs ss : List Inequality) → BeginsWith classes row b rs (AreRowsOf classes more) → BeginsWith classes row b ss (AreRowsOf classes more) → AllZip HaveSameNumbers rs ss
  begun_alike rest false [] ss h k = absurd h
  begun_alike rest false (r ∷ rs) [] h k = absurd k
  begun_alike rest false (r ∷ rs) (s ∷ ss) h k = (row_alike classes row r s h.0 k.0, rest rs ss h.1 k.1)
  begun_alike rest true [] ss h k = absurd h
  begun_alike rest true (r ∷ []) ss h k = absurd h
  begun_alike rest true (r ∷ q ∷ rs) [] h k = absurd k
  begun_alike rest true (r ∷ q ∷ rs) (s ∷ []) h k = absurd k
  begun_alike rest true (r ∷ q ∷ rs) (s ∷ t ∷ ss) h k = (row_alike classes row r s h.0 k.0, (row_alike classes (turned row) q t h.1 k.1, rest rs ss h.2 k.2))

  begun_again : (rest : (xs ys : List Inequality) → AllZip HaveSameNumbers xs ys → IsWithinWidth (length classes) ys → AreRowsOf classes more xs → AreRowsOf classes more ys) (b : Bool) (rs ss : List Inequality) → AllZip HaveSameNumbers rs ss → IsWithinWidth (length classes) ss → BeginsWith classes row b rs (AreRowsOf classes more) → BeginsWith classes row b ss (AreRowsOf classes more)
  begun_again rest false [] ss a few h = absurd h
  begun_again rest false (r ∷ rs) [] a few h = absurd a
  begun_again rest false (r ∷ rs) (s ∷ ss) a few h = (row_again classes row r s a.0 (few 0 s (omega arith)) h.0, rest rs ss a.1 (λ k d l. few (suc k) d (omega (arith, l))) h.1)
  begun_again rest true [] ss a few h = absurd h
  begun_again rest true (r ∷ []) ss a few h = absurd h
  begun_again rest true (r ∷ q ∷ rs) [] a few h = absurd a
  begun_again rest true (r ∷ q ∷ rs) (s ∷ []) a few h = absurd a.1
  begun_again rest true (r ∷ q ∷ rs) (s ∷ t ∷ ss) a few h = (row_again classes row r s a.0 (few 0 s (omega arith)) h.0, row_again classes (turned row) q t a.1.0 (few 1 t (omega arith)) h.1, rest rs ss a.1.1 (λ k d l. few (suc (suc k)) d (omega (arith, l))) h.2)

  begun_few : (rest : (xs : List Inequality) → AreRowsOf classes more xs → IsWithinWidth (length classes) xs) (b : Bool) (rs : List Inequality) → BeginsWith classes row b rs (AreRowsOf classes more) → IsWithinWidth (length classes) rs
  begun_few rest false [] h = absurd h
  begun_few rest false (r ∷ rs) h = All-cons (λ (s : Inequality). length s.coefficients ≤ length classes) r rs h.0.few (rest rs h.1)
  begun_few rest true [] h = absurd h
  begun_few rest true (r ∷ []) h = absurd h
  begun_few rest true (r ∷ q ∷ rs) h = All-cons (λ (s : Inequality). length s.coefficients ≤ length classes) r (q ∷ rs) h.0.few (All-cons (λ (s : Inequality). length s.coefficients ≤ length classes) q rs h.1.few (rest rs h.2))

-- ---- the rows of entries

rows_alike : (classes : List ℕ) (stated : List (Option Row)) (rs ss : List Inequality) → AreRowsOf classes stated rs → AreRowsOf classes stated ss → AllZip HaveSameNumbers rs ss
rows_alike classes [] rs ss h k = subst (λ xs. AllZip HaveSameNumbers xs ss) (sym h) (subst (λ ys. AllZip HaveSameNumbers [] ys) (sym k) tt)
rows_alike classes (None ∷ more) rs ss h k = rows_alike classes more rs ss h k
rows_alike classes (Some row ∷ more) rs ss h k = begun_alike classes row more (rows_alike classes more) row.is_equation rs ss h k

none_again : (rs ss : List Inequality) → AllZip HaveSameNumbers rs ss → rs ≡ [] → ss ≡ []
none_again [] [] a e = refl
none_again [] (s ∷ ss) a e = absurd a
none_again (r ∷ rs) ss a e = absurd (cc)

rows_again : (classes : List ℕ) (stated : List (Option Row)) (rs ss : List Inequality) → AllZip HaveSameNumbers rs ss → IsWithinWidth (length classes) ss → AreRowsOf classes stated rs → AreRowsOf classes stated ss
rows_again classes [] rs ss a few h = none_again rs ss a h
rows_again classes (None ∷ more) rs ss a few h = rows_again classes more rs ss a few h
rows_again classes (Some row ∷ more) rs ss a few h = begun_again classes row more (rows_again classes more) row.is_equation rs ss a few h

rows_few : (classes : List ℕ) (stated : List (Option Row)) (rs : List Inequality) → AreRowsOf classes stated rs → IsWithinWidth (length classes) rs
rows_few classes [] rs h = subst (λ xs. IsWithinWidth (length classes) xs) (sym h) (All-nil (λ (s : Inequality). length s.coefficients ≤ length classes))
rows_few classes (None ∷ more) rs h = rows_few classes more rs h
rows_few classes (Some row ∷ more) rs h = begun_few classes row more (rows_few classes more) row.is_equation rs h

-- ---- the rows of a branch

module _ (class : TermData → ℕ) where
  entry_once : (p : FormulaData) (r s : Option Row) → IsEntryRow class p r → IsEntryRow class p s → r ≡ s
  entry_once p r s (Fits a x) (Fits c y) = sym x ∙ y
  entry_once p r s (Fits a x) (Leaves n y) = absurd (n a)
  entry_once p r s (Leaves n x) (Fits c y) = absurd (n c)
  entry_once p r s (Leaves n x) (Leaves m y) = x ∙ sym y

  stated_once : (ps : List FormulaData) (rs ss : List (Option Row)) → AllZip (IsEntryRow class) ps rs → AllZip (IsEntryRow class) ps ss → rs ≡ ss
  stated_once [] [] [] x y = refl
  stated_once [] [] (s ∷ ss) x y = absurd y
  stated_once [] (r ∷ rs) ss x y = absurd x
  stated_once (p ∷ ps) [] ss x y = absurd x
  stated_once (p ∷ ps) (r ∷ rs) [] x y = absurd y
  stated_once (p ∷ ps) (r ∷ rs) (s ∷ ss) x y = λ i. entry_once p r s x.0 y.0 i ∷ stated_once ps rs ss x.1 y.1 i

module _ (b : Branch) (class : TermData → ℕ) (classes : List ℕ) where
  pub branch_alike : (rs ss : List Inequality) → AreBranchRows b class classes rs → AreBranchRows b class classes ss → AllZip HaveSameNumbers rs ss
  branch_alike rs ss h k =
      let same = stated_once class (formulas b) h.stated k.stated h.are_stated k.are_stated in
      rows_alike classes k.stated rs ss (subst (λ o. AreRowsOf classes o rs) same h.are_rows) k.are_rows

  pub branch_again : (rs ss : List Inequality) → AllZip HaveSameNumbers rs ss → IsWithinWidth (length classes) ss → AreBranchRows b class classes rs → AreBranchRows b class classes ss
  branch_again rs ss alike few h = record {
    classing = h.classing;
    stated = h.stated;
    are_stated = h.are_stated;
    different = h.different;
    are_rows = rows_again classes h.stated rs ss alike few h.are_rows;
  }

  pub branch_few : (rs : List Inequality) → AreBranchRows b class classes rs → IsWithinWidth (length classes) rs
  branch_few rs h = rows_few classes h.stated rs h.are_rows
