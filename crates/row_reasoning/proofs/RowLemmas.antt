-- Rows over classes: written, over more classes, and after others.
use Rattle.std.proofs.Common.{◌≡◌, ◌⊎◌, inl, inr, ℕ, ◌<◌, ◌≤◌, ℤ, pos, ◌+ℤ◌, ◌-ℤ◌, Bool, true, false, not, List, [], ◌∷◌, ◌++◌, length, Option, Some, None, refl, sym, ap, ◌∙◌, subst, arith}
use Rattle.std.specs.Prelude.{slice_get}
use Rattle.std.specs.List.{AllZip}
use Rattle.std.proofs.lemmas.Bool.{cases_lt}
use Rattle.std.proofs.lemmas.Int.{ints}
use Rattle.std.proofs.lemmas.List.{get_or_past}
use Rattle.std.proofs.lemmas.Option.{slice_get_within}
use lib.IntN.{*ℤ-zero}
use Rattle.linear_arith.specs.Fits.{Fits}
use Rattle.linear_arith.specs.Inequality.{Inequality, coefficient}
use Rattle.fol.specs.FormulaData.{TermData, VarTerm, FormulaData}
use Rattle.certificates.specs.Linear.{kept, kept_of, Part, weight, Row, gap_weight, row_weight}
use Rattle.certificates.specs.Unknowns.{EachUnknown}
use Rattle.certificates.proofs.Sums.{EachUnknown-map, kept_of_exact}
use Rattle.certificates.proofs.LinearLemmas.{term_cases}
use Rattle.certificates.proofs.KeptLemmas.{row_fits}
use Rattle.certificates.specs.Rows.{IsKnown, IsRowOf, turned, BeginsWith, BeginsWithEntry, AreRowsOf}
use Rattle.tableau.proofs.ListLemmas.{push_kept}
use Rattle.row_reasoning.specs.Sums.{coefficient_in, Has, unsigned, signed, amount, IsKept, IsUnknownOf}
use Rattle.row_reasoning.specs.Entries.{IsRowSum}
use Rattle.row_reasoning.specs.Rows.{turned_if, IsRowFrom, IsLonger, AreDifferent, IsWritten}
use Rattle.row_reasoning.specs.declared.sum.LinearSum.{LinearSum}
use Rattle.row_reasoning.specs.declared.rows.RowOrigin.{RowOrigin}
use Rattle.row_reasoning.proofs.KeptLemmas.{kept_itself, signed_fits}
use Rattle.row_reasoning.proofs.JoiningLemmas.{IsMadeOf}
use Rattle.row_reasoning.proofs.PutLemmas.{one_position, longer_keeps, longer_had, longer_length, IsWriting}

-- ---- written rows

opposite : (negated : Bool) (z : ℤ) → signed (not negated) z ≡ pos 0 -ℤ signed negated z
opposite false z = refl
opposite true z = omega (arith, ints)

pub written_made : (ks ls : List ℕ) (s : LinearSum) (cs : List ℤ) (b : ℤ) → IsWriting ks s.is_negated s.coefficients.entries ls cs → b ≡ signed (not s.is_negated) s.constant → IsWritten ks ls s (record { coefficients = cs; bound = b })
written_made ks ls s cs b h e = record {
  longer = h.longer;
  different = h.different;
  known = h.known;
  from = h.from;
  few = (let l = h.long in omega (arith, l));
  numbers = h.numbers;
  bound = e ∙ opposite s.is_negated s.constant;
}

twice : (a b : ℤ) → b ≡ pos 0 -ℤ a → a ≡ pos 0 -ℤ b
twice a b e = omega (arith, ints, e)

pub row_written : (ks ls : List ℕ) (s : LinearSum) (row : Row) (made : Inequality) → IsRowSum row s → IsWritten ks ls s made → IsRowOf ls row made
row_written ks ls s row made h w = record {
  lesser = known row.lesser h.lesser;
  greater = known row.greater h.greater;
  few = w.few;
  coefficients = λ k n e. h.weights (Some (VarTerm n)) ∙ ap Some (sym (w.numbers k n e));
  bound = h.weights None ∙ ap Some (twice (amount s None) made.bound w.bound);
}
  where
    known : (t : TermData) → EachUnknown (IsUnknownOf s) t → EachUnknown (IsKnown ls) t
    known t each = EachUnknown-map (IsUnknownOf s) (IsKnown ls) (λ u k. (let a = w.known k.0 k.2 in (a.position, k.0, a.found, k.1))) t each

-- ---- over more classes

module _ (ks ls : List ℕ) (longer : IsLonger ks ls) (different : AreDifferent ls) where
  known_longer : (t : TermData) → EachUnknown (IsKnown ks) t → EachUnknown (IsKnown ls) t
  known_longer t each = EachUnknown-map (IsKnown ks) (IsKnown ls) (λ u k. (k.0, k.1, longer_keeps ks ls longer k.0 k.1 k.2, k.3)) t each

  -- a class with a new index is no unknown of a row over the old ones
  new_class : (k n : ℕ) → length ks ≤ k → slice_get ls k ≡ Some n → IsKnown ks (VarTerm n) → ⊥
  new_class k n l e known =
      let same : n ≡ known.1 = (let both = known.3 in cc) in
      let within = slice_get_within ks known.0 known.1 known.2 in
      let position : known.0 ≡ k = one_position ls different known.0 k n (longer_keeps ks ls longer known.0 known.1 known.2 ∙ ap Some (sym same)) e in
      omega (arith, within, position, l)

  no_weight : (k n : ℕ) → length ks ≤ k → slice_get ls k ≡ Some n → (t : TermData) → EachUnknown (IsKnown ks) t → weight (Some (VarTerm n)) t ≡ Some (pos 0)
  no_weight k n l e t each = elim (term_cases (IsKnown ks) (VarTerm n) t each) [ inl f ↦ f | inr known ↦ absurd (new_class k n l e known) ]

  pub row_longer : (row : Row) (made : Inequality) → IsRowOf ks row made → IsRowOf ls row made
  row_longer row made h = record {
    lesser = known_longer row.lesser h.lesser;
    greater = known_longer row.greater h.greater;
    few = (let f = h.few in let l = longer_length ks ls longer in omega (arith, f, l));
    coefficients = λ k n e. at k n e (cases_lt k (length ks));
    bound = h.bound;
  }
    where
      at : (k n : ℕ) → slice_get ls k ≡ Some n → (k < length ks) ⊎ (length ks ≤ k) → row_weight (Some (VarTerm n)) (Some row) ≡ Some (coefficient k made)
      at k n e (inl l) = h.coefficients k n (longer_had ks ls longer k n l e)
      at k n e (inr l) =
          ap (λ o. kept_of ◌+ℤ◌ o (Some (pos 0))) (λ i. kept_of ◌-ℤ◌ (no_weight k n l e row.lesser h.lesser i) (no_weight k n l e row.greater h.greater i))
          ∙ ap Some (sym (get_or_past made.coefficients k (pos 0) (let f = h.few in omega (arith, f, l))))

  -- ---- further rows after these

  module _ (more : List Inequality) (Rest Last : List Inequality → Type 0) (rest : (rows : List Inequality) → Rest rows → Last (rows ++ more)) where
    begins : (row : Row) (b : Bool) (rows : List Inequality) → BeginsWith ks row b rows Rest → BeginsWith ls row b (rows ++ more) Last
    begins row false [] h = absurd h
    begins row false (r ∷ rows) h = (row_longer row r h.0, rest rows h.1)
    begins row true [] h = absurd h
    begins row true (r ∷ []) h = absurd h
    begins row true (r ∷ s ∷ rows) h = (row_longer row r h.0, row_longer (turned row) s h.1, rest rows h.2)

    begins_entry : (o : Option Row) (rows : List Inequality) → BeginsWithEntry ks o rows Rest → BeginsWithEntry ls o (rows ++ more) Last
    begins_entry None rows h = rest rows h
    begins_entry (Some row) rows h = begins row row.is_equation rows h

  pub rows_more : (o : Option Row) (more : List Inequality) → BeginsWithEntry ls o more (λ rows. rows ≡ []) → (os : List (Option Row)) (rows : List Inequality) → AreRowsOf ks os rows → AreRowsOf ls (os ++ o ∷ []) (rows ++ more)
  rows_more o more last [] rows h = subst (λ (rs : List Inequality). AreRowsOf ls (o ∷ []) (rs ++ more)) (sym h) last
  rows_more o more last (p ∷ ps) rows h = begins_entry more (AreRowsOf ks ps) (AreRowsOf ls (ps ++ o ∷ [])) (λ rs g. rows_more o more last ps rs g) p rows h

  pub origin_longer : (class : TermData → ℕ) (ps : List FormulaData) (p : FormulaData) (row : Inequality) (origin : RowOrigin) → IsRowFrom class ps ks row origin → IsRowFrom class (ps ++ p ∷ []) ls row origin
  origin_longer class ps p row origin h = record {
    formula = h.formula;
    found = push_kept ps p origin.entry h.formula h.found;
    stated = h.stated;
    stated_is = h.stated_is;
    is_row = row_longer (turned_if origin.is_turned h.stated) row h.is_row;
    equation = h.equation;
  }

-- ---- lists side by side

module _ {A B : Type 0} (R S : A → B → Type 0) (each : (a : A) (b : B) → R a b → S a b) (zs : List A) (ws : List B) (last : AllZip S zs ws) where
  pub zip_more : (xs : List A) (ys : List B) → AllZip R xs ys → AllZip S (xs ++ zs) (ys ++ ws)
  zip_more [] [] h = last
  zip_more [] (y ∷ ys) h = absurd h
  zip_more (x ∷ xs) [] h = absurd h
  zip_more (x ∷ xs) (y ∷ ys) h = (each x y h.0, zip_more xs ys h.1)

-- ---- the second row of an equation

-- the negated sum has the same numbers before the sign
turned_numbers : (s n : LinearSum) → IsMadeOf n (not s.is_negated) s.constant s.coefficients.entries → (part : Part) → unsigned n part ≡ unsigned s part
turned_numbers s n made None = made.constant_is
turned_numbers s n made (Some (VarTerm m)) = ap (λ es. coefficient_in es m) made.coefficients
turned_numbers s n made (Some u) = refl

pub turned_kept : (s n : LinearSum) → IsMadeOf n (not s.is_negated) s.constant s.coefficients.entries → IsKept s → IsKept n
turned_kept s n made h = record { fits = λ part. subst (λ (z : ℤ). kept z ≡ Some z) (sym (turned_numbers s n made part)) (h.fits part) }

turned_amount : (s n : LinearSum) → IsMadeOf n (not s.is_negated) s.constant s.coefficients.entries → (part : Part) → amount n part ≡ pos 0 -ℤ amount s part
turned_amount s n made part = (λ i. signed (made.sign i) (turned_numbers s n made part i)) ∙ opposite s.is_negated (unsigned s part)

zero_gap : (gap : ℤ) → gap ≡ pos 0 → (part : Part) → gap_weight part gap ≡ Some (pos 0)
zero_gap gap e None = ap Some e
zero_gap gap e (Some u) = refl

-- the difference the other way round
turned_difference : (x y g : Option ℤ) (a : ℤ) → g ≡ Some (pos 0) → kept_of ◌+ℤ◌ (kept_of ◌-ℤ◌ x y) g ≡ Some a → Fits a → kept_of ◌+ℤ◌ (kept_of ◌-ℤ◌ y x) g ≡ Some (pos 0 -ℤ a)
turned_difference x y g a none e f =
    let outer = kept_of_exact ◌+ℤ◌ (kept_of ◌-ℤ◌ x y) g a e in
    let inner = kept_of_exact ◌-ℤ◌ x y outer.left outer.is_left in
    let nothing : outer.right ≡ pos 0 = (let both : Some outer.right ≡ Some (pos 0) = sym outer.is_right ∙ none in cc) in
    let total = outer.exact in
    let exact = inner.exact in
    let is : inner.right -ℤ inner.left ≡ pos 0 -ℤ a = omega (arith, ints, nothing, total, exact) in
    let fits : Fits (pos 0 -ℤ a) = signed_fits true a f in
    let first : kept_of ◌-ℤ◌ y x ≡ Some (pos 0 -ℤ a) = (λ i. kept_of ◌-ℤ◌ (inner.is_right i) (inner.is_left i)) ∙ ap kept is ∙ kept_itself (pos 0 -ℤ a) fits in
    let same : (pos 0 -ℤ a) +ℤ pos 0 ≡ pos 0 -ℤ a = omega (arith, ints) in
    (λ i. kept_of ◌+ℤ◌ (first i) (none i)) ∙ ap kept same ∙ kept_itself (pos 0 -ℤ a) fits

pub turned_sum : (row : Row) (s n : LinearSum) → IsMadeOf n (not s.is_negated) s.constant s.coefficients.entries → row.gap ≡ pos 0 → IsRowSum row s → IsRowSum (turned row) n
turned_sum row s n made gap h = record {
  weights = λ part. turned_difference (weight part row.lesser) (weight part row.greater) (gap_weight part row.gap) (amount s part) (zero_gap row.gap gap part) (h.weights part) (row_fits part (Some row) (amount s part) (h.weights part)) ∙ ap Some (sym (turned_amount s n made part));
  lesser = unknowns row.greater h.greater;
  greater = unknowns row.lesser h.lesser;
  spoken = λ m has ks first second. h.spoken m (subst (λ es. Has es m) made.coefficients has) ks second first;
}
  where
    unknowns : (t : TermData) → EachUnknown (IsUnknownOf s) t → EachUnknown (IsUnknownOf n) t
    unknowns t each = EachUnknown-map (IsUnknownOf s) (IsUnknownOf n) (λ u k. (k.0, k.1, subst (λ es. Has es k.0) (sym made.coefficients) k.2)) t each
