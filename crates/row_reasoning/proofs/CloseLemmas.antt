-- A contradiction of rows over classes is a contradiction of their entries with a term for each class.
use Rattle.std.proofs.Common.{◌≡◌, ◌⊎◌, inl, inr, ℕ, zero, suc, ℤ, pos, negsuc, ◌+ℤ◌, ◌-ℤ◌, ◌<ℤ◌, Bool, true, false, List, [], ◌∷◌, Some, None, refl, sym, ap, ◌∙◌, arith}
use Rattle.std.specs.Prelude.{slice_get}
use Rattle.std.specs.List.{AllZip}
use Rattle.std.proofs.lemmas.Int.{ints}
use Rattle.fol.specs.FormulaData.{TermData, VarTerm, NumTerm, FormulaData}
use Rattle.linear_arith.specs.Inequality.{Inequality, coefficient}
use Rattle.linear_arith.specs.Combination.{weighted_sum, bound_of, IsContradiction}
use Rattle.certificates.specs.declared.certificate.Multiple.{Multiple}
use Rattle.certificates.specs.Linear.{same_term, Part, numeral_weight, unknown_weight, row_of, row_of_entry, gap_weight, row_weight, total, IsContradiction as IsCombination}
use Rattle.certificates.proofs.Sums.{same_term-equal, same_term_itself}
use Rattle.certificates.specs.Rows.{over, comparison_with, IsRowOf}
use Rattle.row_reasoning.specs.Rows.{turned_if, IsRowFrom}
use Rattle.row_reasoning.specs.Sums.{signed}
use Rattle.row_reasoning.specs.declared.rows.RowOrigin.{RowOrigin}
use Rattle.row_reasoning.specs.Chosen.{AreChosen, with_chosen}
use Rattle.row_reasoning.specs.Cited.{StandsChosen, AreCited}
use Rattle.row_reasoning.proofs.WeightLemmas.{counts_alike, nothing}
use Rattle.row_reasoning.proofs.ClosingsRowLemmas.{with_sides, row_with, entry_row, equation_gap, AreKnownSides, same_row, nothing_row, stated_weight}
use Rattle.row_reasoning.proofs.ClosingsSumLemmas.{IsReadAs, combined_is, MayCite, all_count, no_numbers, nothing_stays, opposites, opposite_stays}

-- ---- the chosen term of an unknown

pub record IsChosenAt (classes : List ℕ) (chosen : ℕ → TermData) (u : TermData) : Type 0 where
  pub position : ℕ
  pub name : ℕ
  pub found : slice_get classes position ≡ Some name
  pub is : chosen name ≡ u

pub record IsNotChosen (classes : List ℕ) (chosen : ℕ → TermData) (u : TermData) : Type 0 where
  pub none : (k n : ℕ) → slice_get classes k ≡ Some n → chosen n ≡ u → ⊥

-- the first of these classes, or one of the others
of_more : (m : ℕ) (ms : List ℕ) (chosen : ℕ → TermData) (u : TermData) → IsChosenAt ms chosen u ⊎ IsNotChosen ms chosen u → (b : Bool) → same_term (chosen m) u ≡ b → IsChosenAt (m ∷ ms) chosen u ⊎ IsNotChosen (m ∷ ms) chosen u
of_more m ms chosen u rest true e = inl (record { position = 0; name = m; found = refl; is = same_term-equal (chosen m) u e })
of_more m ms chosen u (inl h) false e = inl (record { position = suc h.position; name = h.name; found = h.found; is = h.is })
of_more m ms chosen u (inr h) false e = inr (record { none = none })
  where
    none : (k n : ℕ) → slice_get (m ∷ ms) k ≡ Some n → chosen n ≡ u → ⊥
    none zero n f c =
        let same : m ≡ n = cc in
        let is : chosen m ≡ u = ap chosen same ∙ c in
        let never : true ≡ false = sym (ap (same_term (chosen m)) (sym is) ∙ same_term_itself (chosen m)) ∙ e in
        cc
    none (suc k) n f c = h.none k n f c

chosen_or_not : (classes : List ℕ) (chosen : ℕ → TermData) (u : TermData) → IsChosenAt classes chosen u ⊎ IsNotChosen classes chosen u
chosen_or_not [] chosen u = inr (record { none = λ k n f e. absurd (cc) })
chosen_or_not (m ∷ ms) chosen u = of_more m ms chosen u (chosen_or_not ms chosen u) (same_term (chosen m) u) refl

module _ (class : TermData → ℕ) (classes : List ℕ) (chosen : ℕ → TermData) (are : AreChosen class classes chosen) (ps qs : List FormulaData) where
  -- ---- one row

  module _ (row : Inequality) (origin : RowOrigin) (h : IsRowFrom class ps classes row origin) where
    sides : (t : Bool) → IsRowOf classes (turned_if t h.stated) row → AreKnownSides classes h.stated
    sides false r = record { lesser = r.lesser; greater = r.greater }
    sides true r = record { lesser = r.greater; greater = r.lesser }

    known : AreKnownSides classes h.stated
    known = sides origin.is_turned h.is_row

    gap : origin.is_turned ≡ true → h.stated.gap ≡ pos 0
    gap e = equation_gap (comparison_with (over class) h.formula) h.stated (entry_row class h.formula h.stated h.stated_is) (h.equation e)

    -- the formula of the entry with the chosen terms has this row
    stands_row : (position : ℕ) → StandsChosen class chosen ps qs origin position → row_of_entry (slice_get qs position) ≡ Some (with_sides (with_chosen chosen) h.stated)
    stands_row position s =
        let both : Some h.formula ≡ Some s.formula = sym h.found ∙ s.found in
        let same : h.formula ≡ s.formula = cc in
        ap row_of_entry s.stands ∙ row_with (with_chosen chosen) (comparison_with (over class) s.formula) h.stated (ap (λ p. row_of (comparison_with (over class) p)) (sym same) ∙ entry_row class h.formula h.stated h.stated_is)

    reads : (p q : Part) (number : Inequality → ℤ) → ((i : ℤ) → numeral_weight q i ≡ numeral_weight p i) → ((i : ℤ) → gap_weight q i ≡ gap_weight p i) → ((k n : ℕ) → slice_get classes k ≡ Some n → unknown_weight q (chosen n) ≡ unknown_weight p (VarTerm n)) → row_weight p (Some h.stated) ≡ Some (signed origin.is_turned (number row)) → IsReadAs class chosen ps qs q number row origin
    reads p q number numerals gaps unknowns e = record { read = λ position s. ap (row_weight q) (stands_row position s) ∙ same_row classes chosen are.no_sum p q numerals gaps unknowns h.stated known ∙ e }

    may_cite : MayCite class chosen ps qs row origin
    may_cite = record { stated = with_sides (with_chosen chosen) h.stated; found = stands_row; equation = h.equation }

    read_bound : IsReadAs class chosen ps qs None (λ r. pos 0 -ℤ bound_of r) row origin
    read_bound = reads None None (λ r. pos 0 -ℤ bound_of r) (λ i. refl) (λ i. refl) (λ k n f. refl) (stated_weight None h.stated origin.is_turned (pos 0 -ℤ bound_of row) gap h.is_row.bound)

    read_unknown : (u : TermData) (c : IsChosenAt classes chosen u) → IsReadAs class chosen ps qs (Some u) (coefficient c.position) row origin
    read_unknown u c = reads (Some (VarTerm c.name)) (Some u) (coefficient c.position) (λ i. refl) (λ i. refl) alike (stated_weight (Some (VarTerm c.name)) h.stated origin.is_turned (coefficient c.position row) gap (h.is_row.coefficients c.position c.name c.found))
      where
        alike : (k n : ℕ) → slice_get classes k ≡ Some n → unknown_weight (Some u) (chosen n) ≡ unknown_weight (Some (VarTerm c.name)) (VarTerm n)
        alike k n f = counts_alike (chosen n) u (VarTerm n) (VarTerm c.name) there back
          where
            there : chosen n ≡ u → VarTerm n ≡ VarTerm c.name
            there e = ap VarTerm (sym (are.of_class k n f) ∙ ap class (e ∙ sym c.is) ∙ are.of_class c.position c.name c.found)

            back : VarTerm n ≡ VarTerm c.name → chosen n ≡ u
            back e = let same : n ≡ c.name = cc in ap chosen same ∙ c.is

    read_nothing : (u : TermData) → IsNotChosen classes chosen u → IsReadAs class chosen ps qs (Some u) (λ r. pos 0) row origin
    read_nothing u c = reads nothing (Some u) (λ r. pos 0) (λ i. refl) (λ i. refl) alike (nothing_row classes h.stated known ∙ ap Some (nothing_signed origin.is_turned))
      where
        nothing_signed : (t : Bool) → pos 0 ≡ signed t (pos 0)
        nothing_signed false = refl
        nothing_signed true = refl

        alike : (k n : ℕ) → slice_get classes k ≡ Some n → unknown_weight (Some u) (chosen n) ≡ unknown_weight nothing (VarTerm n)
        alike k n f = counts_alike (chosen n) u (VarTerm n) (NumTerm (pos 0)) (λ e. absurd (c.none k n f e)) (λ e. absurd (cc))

  -- ---- all rows

  all_rows : (S : Inequality → RowOrigin → Type 0) → ((row : Inequality) (origin : RowOrigin) → IsRowFrom class ps classes row origin → S row origin) → (rows : List Inequality) (origins : List RowOrigin) → AllZip (IsRowFrom class ps classes) rows origins → AllZip S rows origins
  all_rows S f [] [] h = h
  all_rows S f [] (o ∷ os) h = absurd h
  all_rows S f (r ∷ rs) [] h = absurd h
  all_rows S f (r ∷ rs) (o ∷ os) h = (f r o h.0, all_rows S f rs os h.1)

  positive_number : (z : ℤ) → pos 0 <ℤ z → (n : ℕ) × (z ≡ pos (suc n))
  positive_number (pos zero) h = absurd (omega (arith, ints, h))
  positive_number (pos (suc n)) h = (n, refl)
  positive_number (negsuc n) h = absurd (omega (arith, ints, h))

  more_than_nothing : (s : ℤ) → s <ℤ pos 0 → pos 0 <ℤ (pos 0 +ℤ (pos 0 -ℤ s))
  more_than_nothing s h = omega (arith, ints, h)

  module _ (rows : List Inequality) (origins : List RowOrigin) (from : AllZip (IsRowFrom class ps classes) rows origins) (ms : List ℤ) (contradiction : IsContradiction rows ms) (cited : List Multiple) (are_cited : AreCited class chosen ps qs origins ms cited) where
    cancelled_at : (u : TermData) → IsChosenAt classes chosen u → total (Some u) qs cited ≡ Some (pos 0)
    cancelled_at u c =
        combined_is class chosen ps qs (Some u) (coefficient c.position) (pos 0) rows origins ms cited (all_rows (IsReadAs class chosen ps qs (Some u) (coefficient c.position)) (λ r o h. read_unknown r o h u c) rows origins from) (contradiction.coefficients_within c.position) are_cited
        ∙ ap (λ z. Some (pos 0 +ℤ z)) (contradiction.no_unknown_left c.position)

    never_there : (u : TermData) → IsNotChosen classes chosen u → total (Some u) qs cited ≡ Some (pos 0)
    never_there u c =
        combined_is class chosen ps qs (Some u) (λ r. pos 0) (pos 0) rows origins ms cited (all_rows (IsReadAs class chosen ps qs (Some u) (λ r. pos 0)) (λ r o h. read_nothing r o h u c) rows origins from) (nothing_stays ms rows) are_cited
        ∙ ap (λ z. Some (pos 0 +ℤ z)) (no_numbers ms rows)

    cancelled : (u : TermData) → total (Some u) qs cited ≡ Some (pos 0)
    cancelled u = elim (chosen_or_not classes chosen u) [ inl c ↦ cancelled_at u c | inr c ↦ never_there u c ]

    abbrev rest : ℤ
    rest = weighted_sum bound_of ms rows

    constant : total None qs cited ≡ Some (pos 0 +ℤ (pos 0 -ℤ rest))
    constant =
        combined_is class chosen ps qs None (λ r. pos 0 -ℤ bound_of r) (pos 0) rows origins ms cited (all_rows (IsReadAs class chosen ps qs None (λ r. pos 0 -ℤ bound_of r)) read_bound rows origins from) (opposite_stays bound_of (pos 0) ms rows contradiction.bounds_within) are_cited
        ∙ ap (λ z. Some (pos 0 +ℤ z)) (opposites bound_of ms rows)

    pub closes : IsCombination qs cited
    closes =
        let n = positive_number (pos 0 +ℤ (pos 0 -ℤ rest)) (more_than_nothing rest contradiction.negative_bound) in
        record {
          rows = all_count class chosen ps qs rows origins ms cited (all_rows (MayCite class chosen ps qs) may_cite rows origins from) contradiction.not_negative are_cited;
          cancelled = cancelled;
          positive = (n.0, constant ∙ ap Some n.1);
        }
