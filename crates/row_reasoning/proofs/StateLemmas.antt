-- The rows so far, with one more entry.
use Rattle.std.proofs.Common.{◌≡◌, ◌⊎◌, inl, inr, ℕ, Bool, true, false, not, List, [], ◌∷◌, ◌++◌, length, Option, Some, None, refl, sym, ap, ◌∙◌, subst, append_assoc, append-nil, arith}
use Rattle.std.specs.Prelude.{slice_get}
use Rattle.std.specs.List.{AllZip}
use Rattle.fol.specs.FormulaData.{TermData, FormulaData}
use Rattle.certificates.specs.Linear.{Row}
use Rattle.linear_arith.specs.Inequality.{Inequality}
use Rattle.certificates.specs.BranchesBranch.{Branch, formulas}
use Rattle.certificates.specs.Rows.{IsClassing, IsEntryRow, Fits, Leaves, IsRowOf, turned, BeginsWith, BeginsWithEntry, AreRowsOf, AreBranchRows}
use Rattle.tableau.proofs.ListLemmas.{push_new}
use Rattle.row_reasoning.specs.Sums.{Has, IsAmong}
use Rattle.row_reasoning.specs.Entries.{IsEntrySum}
use Rattle.row_reasoning.specs.Rows.{turned_if, IsRowFrom, IsLonger, AreDifferent, IsPushed, CoversRow, Covers, AreRowsSoFar, IsSpoken, AreClassesFrom}
use Rattle.row_reasoning.specs.declared.entry.EntrySum.{EntrySum}
use Rattle.row_reasoning.specs.declared.sum.LinearSum.{LinearSum}
use Rattle.row_reasoning.specs.declared.rows.RowOrigin.{RowOrigin}
use Rattle.row_reasoning.specs.declared.rows.BranchRows.{BranchRows}
use Rattle.row_reasoning.proofs.JoiningLemmas.{IsMadeOf}
use Rattle.row_reasoning.proofs.PutLemmas.{longer_itself, longer_twice}
use Rattle.row_reasoning.proofs.RowLemmas.{row_written, row_longer, rows_more, origin_longer, zip_more, turned_sum}

-- ---- no rows

pub none_so_far : (class : TermData → ℕ) (given : List ℕ) (made : BranchRows) → AreDifferent given → made.classes.keys ≡ given → made.rows ≡ [] → made.origins.items ≡ [] → AreRowsSoFar class given [] made
none_so_far class given made different classes rows origins = record {
  stated = [];
  are_stated = tt;
  different = subst AreDifferent (sym classes) different;
  longer = longer_itself given made.classes.keys classes;
  spoken = λ n a. inl (subst (λ ks. IsAmong ks n) classes a);
  are_rows = rows;
  origins = subst (λ rs. AllZip (IsRowFrom class [] made.classes.keys) rs made.origins.items) (sym rows) (subst (λ os. AllZip (IsRowFrom class [] made.classes.keys) [] os) (sym origins) tt);
}

pub no_classes : AreDifferent []
no_classes = λ i j d l m e. absurd (omega (arith, m))

-- ---- lists that contain the classes of all rows

covers_front : (ks : List ℕ) (rows more : List (Option Row)) → Covers ks (rows ++ more) → Covers ks rows
covers_front ks [] more h = tt
covers_front ks (row ∷ rows) more h = (h.0, covers_front ks rows more h.1)

covers_last : (ks : List ℕ) (rows : List (Option Row)) (row : Option Row) → Covers ks (rows ++ row ∷ []) → CoversRow ks row
covers_last ks [] row h = h.0
covers_last ks (r ∷ rows) row h = covers_last ks rows row h.1

-- ---- one more entry with its rows

module _ (class : TermData → ℕ) (given : List ℕ) (ps : List FormulaData) (p : FormulaData) (o : Option Row) (old new : BranchRows) (before : AreRowsSoFar class given ps old) (stated : IsEntryRow class p o) (longer : IsLonger old.classes.keys new.classes.keys) (different : AreDifferent new.classes.keys) (from : (n : ℕ) → IsAmong new.classes.keys n → IsAmong old.classes.keys n ⊎ ((ks : List ℕ) → CoversRow ks o → IsAmong ks n)) (more : List Inequality) (origins : List RowOrigin) (rows_are : new.rows ≡ old.rows ++ more) (origins_are : new.origins.items ≡ old.origins.items ++ origins) where
  spoken_cases : (n : ℕ) → IsAmong old.classes.keys n ⊎ ((ks : List ℕ) → CoversRow ks o → IsAmong ks n) → IsAmong given n ⊎ ((ks : List ℕ) → Covers ks (before.stated ++ o ∷ []) → IsAmong ks n)
  spoken_cases n (inl a) = elim (before.spoken n a) [ inl g ↦ inl g | inr f ↦ inr (λ ks c. f ks (covers_front ks before.stated (o ∷ []) c)) ]
  spoken_cases n (inr f) = inr (λ ks c. f ks (covers_last ks before.stated o c))

  rows_behind : BeginsWithEntry new.classes.keys o more (λ rows. rows ≡ []) → AllZip (IsRowFrom class (ps ++ p ∷ []) new.classes.keys) more origins → AreRowsSoFar class given (ps ++ p ∷ []) new
  rows_behind begins from_entries = record {
    stated = before.stated ++ o ∷ [];
    are_stated = zip_more (IsEntryRow class) (IsEntryRow class) (λ a b h. h) (p ∷ []) (o ∷ []) (stated, tt) ps before.stated before.are_stated;
    different = different;
    longer = longer_twice given old.classes.keys new.classes.keys before.longer longer;
    spoken = λ n a. spoken_cases n (from n a);
    are_rows = subst (λ rs. AreRowsOf new.classes.keys (before.stated ++ o ∷ []) rs) (sym rows_are) (rows_more old.classes.keys new.classes.keys longer different o more begins before.stated old.rows before.are_rows);
    origins = subst (λ rs. AllZip (IsRowFrom class (ps ++ p ∷ []) new.classes.keys) rs new.origins.items) (sym rows_are)
        (subst (λ os. AllZip (IsRowFrom class (ps ++ p ∷ []) new.classes.keys) (old.rows ++ more) os) (sym origins_are)
        (zip_more (IsRowFrom class ps old.classes.keys) (IsRowFrom class (ps ++ p ∷ []) new.classes.keys) (λ r o h. origin_longer old.classes.keys new.classes.keys longer different class ps p r o h) more origins from_entries old.rows old.origins.items before.origins));
  }

-- an entry that has no row
pub no_rows : (class : TermData → ℕ) (given : List ℕ) (ps : List FormulaData) (p : FormulaData) (made : BranchRows) → AreRowsSoFar class given ps made → IsEntryRow class p None → AreRowsSoFar class given (ps ++ p ∷ []) made
no_rows class given ps p made before none =
    rows_behind class given ps p None made made before none (longer_itself made.classes.keys made.classes.keys refl) before.different (λ n a. inl a) [] [] (sym (append-nil made.rows)) (sym (append-nil made.origins.items)) refl tt

from_entry : (class : TermData → ℕ) (ps : List FormulaData) (p : FormulaData) (e : EntrySum) (h : IsEntrySum class p e) (classes : List ℕ) (row : Inequality) (origin : RowOrigin) → origin.entry ≡ length ps → IsRowOf classes (turned_if origin.is_turned h.row) row → (origin.is_turned ≡ true → e.is_equation ≡ true) → IsRowFrom class (ps ++ p ∷ []) classes row origin
from_entry class ps p e h classes row origin entry is equation = record {
  formula = p;
  found = ap (slice_get (ps ++ p ∷ [])) entry ∙ push_new ps p;
  stated = h.row;
  stated_is = h.row_is;
  is_row = is;
  equation = λ t. h.equation ∙ equation t;
}

module _ (class : TermData → ℕ) (given : List ℕ) (ps : List FormulaData) (p : FormulaData) (e : EntrySum) (old mid : BranchRows) (before : AreRowsSoFar class given ps old) (h : IsEntrySum class p e) (first : RowOrigin) (entry : first.entry ≡ length ps) (straight : first.is_turned ≡ false) (pushed : IsPushed old mid e.sum first) where
  first_row : IsRowOf mid.classes.keys h.row pushed.row
  first_row = row_written old.classes.keys mid.classes.keys e.sum h.row pushed.row h.sum pushed.written

  first_from : (classes : List ℕ) → IsRowOf classes h.row pushed.row → IsRowFrom class (ps ++ p ∷ []) classes pushed.row first
  first_from classes is = from_entry class ps p e h classes pushed.row first entry (subst (λ b. IsRowOf classes (turned_if b h.row) pushed.row) (sym straight) is) (λ t. (let both : true ≡ false = sym t ∙ straight in absurd (cc)))

  -- a class of the entry's sum is one of the row's unknowns
  of_sum : (n : ℕ) → Has e.sum.coefficients.entries n → (ks : List ℕ) → CoversRow ks (Some h.row) → IsAmong ks n
  of_sum n has ks covers = h.sum.spoken n has ks covers.0 covers.1

  first_spoken : (n : ℕ) → IsAmong mid.classes.keys n → IsAmong old.classes.keys n ⊎ ((ks : List ℕ) → CoversRow ks (Some h.row) → IsAmong ks n)
  first_spoken n a = elim (pushed.written.from n a) [ inl b ↦ inl b | inr has ↦ inr (of_sum n has) ]

  -- an inequality
  pub one_row : e.is_equation ≡ false → AreRowsSoFar class given (ps ++ p ∷ []) mid
  one_row unequal =
      let is_no : h.row.is_equation ≡ false = h.equation ∙ unequal in
      rows_behind class given ps p (Some h.row) old mid before h.row_is pushed.written.longer pushed.written.different first_spoken (pushed.row ∷ []) (first ∷ []) pushed.rows pushed.origins
      (subst (λ b. BeginsWith mid.classes.keys h.row b (pushed.row ∷ []) (λ rows. rows ≡ [])) (sym is_no) (first_row, refl))
      (first_from mid.classes.keys first_row, tt)

  -- an equation
  pub two_rows : (new : BranchRows) (n : LinearSum) (second : RowOrigin) → e.is_equation ≡ true → IsMadeOf n (not e.sum.is_negated) e.sum.constant e.sum.coefficients.entries → second.entry ≡ length ps → second.is_turned ≡ true → IsPushed mid new n second → AreRowsSoFar class given (ps ++ p ∷ []) new
  two_rows new n second equal made entry_2 is_turned pushed_2 =
      let is_yes : h.row.is_equation ≡ true = h.equation ∙ equal in
      let second_spoken : (m : ℕ) → IsAmong new.classes.keys m → IsAmong old.classes.keys m ⊎ ((ks : List ℕ) → CoversRow ks (Some h.row) → IsAmong ks m) = λ m a. elim (pushed_2.written.from m a) [ inl b ↦ first_spoken m b | inr has ↦ inr (of_sum m (subst (λ es. Has es m) made.coefficients has)) ] in
      let kept : IsRowOf new.classes.keys h.row pushed.row = row_longer mid.classes.keys new.classes.keys pushed_2.written.longer pushed_2.written.different h.row pushed.row first_row in
      let turned_row : IsRowOf new.classes.keys (turned h.row) pushed_2.row = row_written mid.classes.keys new.classes.keys n (turned h.row) pushed_2.row (turned_sum h.row e.sum n made (h.no_gap equal) h.sum) pushed_2.written in
      rows_behind class given ps p (Some h.row) old new before h.row_is (longer_twice old.classes.keys mid.classes.keys new.classes.keys pushed.written.longer pushed_2.written.longer) pushed_2.written.different second_spoken (pushed.row ∷ pushed_2.row ∷ []) (first ∷ second ∷ [])
      (pushed_2.rows ∙ ap (λ rs. rs ++ pushed_2.row ∷ []) pushed.rows ∙ append_assoc old.rows (pushed.row ∷ []) (pushed_2.row ∷ []))
      (pushed_2.origins ∙ ap (λ os. os ++ second ∷ []) pushed.origins ∙ append_assoc old.origins.items (first ∷ []) (second ∷ []))
      (subst (λ b. BeginsWith new.classes.keys h.row b (pushed.row ∷ pushed_2.row ∷ []) (λ rows. rows ≡ [])) (sym is_yes) (kept, turned_row, refl))
      (first_from new.classes.keys kept, (from_entry class ps p e h new.classes.keys pushed_2.row second entry_2 (subst (λ b. IsRowOf new.classes.keys (turned_if b h.row) pushed_2.row) (sym is_turned) turned_row) (λ t. equal), tt))

-- ---- all rows

pub branch_rows_made : (b : Branch) (class : TermData → ℕ) (given : List ℕ) (made : BranchRows) → IsClassing b class → AreRowsSoFar class given (formulas b) made → AreBranchRows b class made.classes.keys made.rows
branch_rows_made b class given made classing h = record {
  classing = classing;
  stated = h.stated;
  are_stated = h.are_stated;
  different = h.different;
  are_rows = h.are_rows;
}

-- ---- the classes of unknowns in rows

one_row_only : (class : TermData → ℕ) (p : FormulaData) (r s : Option Row) → IsEntryRow class p r → IsEntryRow class p s → r ≡ s
one_row_only class p r s (Fits a x) (Fits c y) = sym x ∙ y
one_row_only class p r s (Fits a x) (Leaves n y) = absurd (n a)
one_row_only class p r s (Leaves n x) (Fits c y) = absurd (n c)
one_row_only class p r s (Leaves n x) (Leaves m y) = x ∙ sym y

one_stated : (class : TermData → ℕ) (ps : List FormulaData) (rs ss : List (Option Row)) → AllZip (IsEntryRow class) ps rs → AllZip (IsEntryRow class) ps ss → rs ≡ ss
one_stated class [] [] [] h k = refl
one_stated class [] [] (s ∷ ss) h k = absurd k
one_stated class [] (r ∷ rs) ss h k = absurd h
one_stated class (p ∷ ps) [] ss h k = absurd h
one_stated class (p ∷ ps) (r ∷ rs) [] h k = absurd k
one_stated class (p ∷ ps) (r ∷ rs) (s ∷ ss) h k = λ i. one_row_only class p r s h.0 k.0 i ∷ one_stated class ps rs ss h.1 k.1 i

module _ (ks : List ℕ) (row : Row) (more : List (Option Row)) (rest : (rows : List Inequality) → AreRowsOf ks more rows → Covers ks more) where
  begun_covered : (b : Bool) (rows : List Inequality) → BeginsWith ks row b rows (AreRowsOf ks more) → Covers ks (Some row ∷ more)
  begun_covered false [] h = absurd h
  begun_covered false (r ∷ rows) h = ((h.0.lesser, h.0.greater), rest rows h.1)
  begun_covered true [] h = absurd h
  begun_covered true (r ∷ []) h = absurd h
  begun_covered true (r ∷ s ∷ rows) h = ((h.0.lesser, h.0.greater), rest rows h.2)

-- the classes of the rows contain those of all their unknowns
pub rows_covered : (ks : List ℕ) (stated : List (Option Row)) (rows : List Inequality) → AreRowsOf ks stated rows → Covers ks stated
rows_covered ks [] rows h = tt
rows_covered ks (None ∷ more) rows h = (tt, rows_covered ks more rows h)
rows_covered ks (Some row ∷ more) rows h = begun_covered ks row more (rows_covered ks more) row.is_equation rows h

pub classes_made : (b : Branch) (class : TermData → ℕ) (given : List ℕ) (made : BranchRows) → AreRowsSoFar class given (formulas b) made → AreClassesFrom b class given made.classes.keys
classes_made b class given made h = record {
  longer = h.longer;
  spoken = λ n a. elim (h.spoken n a) [
    | inl g ↦ inl g
    | inr f ↦ inr (record { among = λ ks rows are. f ks (subst (Covers ks) (one_stated class (formulas b) are.stated h.stated are.are_stated h.are_stated) (rows_covered ks are.stated rows are.are_rows)) })
  ];
}

pub none_given : (b : Branch) (class : TermData → ℕ) (given classes : List ℕ) → given ≡ [] → AreClassesFrom b class given classes → (n : ℕ) → IsAmong classes n → IsSpoken b class n
none_given b class given classes e h n a = elim (h.spoken n a) [ inl g ↦ absurd (no_position n (subst (λ ks. IsAmong ks n) e g)) | inr s ↦ s ]
  where
    no_position : (n : ℕ) → IsAmong [] n → ⊥
    no_position n g = (let e = g.found in absurd (cc))
