-- A combination of rows, computed from the formulas of their entries.
use Rattle.std.proofs.Common.{◌≡◌, ℕ, ℤ, pos, negsuc, ◌+ℤ◌, ◌-ℤ◌, ◌*ℤ◌, Bool, true, false, List, [], ◌∷◌, Option, Some, refl, sym, ap, ◌∙◌, subst, arith}
use Rattle.std.specs.Prelude.{slice_get, ◌≤ℤ◌, All}
use Rattle.std.specs.List.{AllZip}
use Rattle.std.proofs.lemmas.Int.{ints}
use Rattle.std.proofs.lemmas.List.Elements.{All-nil, All-cons, All-head, All-tail}
use lib.IntN.{*ℤ-zero, zero-*ℤ}
use Rattle.fol.specs.FormulaData.{TermData, FormulaData}
use Rattle.linear_arith.specs.Fits.{Fits}
use Rattle.linear_arith.specs.Inequality.{Inequality}
use Rattle.linear_arith.specs.Combination.{weighted_sum, StaysWithin}
use Rattle.certificates.specs.declared.certificate.Multiple.{Multiple}
use Rattle.certificates.specs.Linear.{kept, kept_of, Part, Row, row_of_entry, row_weight, combined, MayMultiply, MayCount}
use Rattle.row_reasoning.specs.Sums.{signed}
use Rattle.row_reasoning.specs.declared.rows.RowOrigin.{RowOrigin}
use Rattle.row_reasoning.proofs.KeptLemmas.{kept_itself, zero_fits}
use Rattle.row_reasoning.specs.Cited.{StandsChosen, AreCited, NoneCited, NotCited, OneCited}
use Rattle.row_reasoning.proofs.SignLemmas.{times_opposite, signed_product}

none_more : (z : ℤ) → z ≡ z +ℤ pos 0
none_more z = omega (arith, ints)

regroup : (a b c : ℤ) → (a +ℤ b) +ℤ c ≡ a +ℤ (b +ℤ c)
regroup a b c = omega (arith, ints)

module _ (class : TermData → ℕ) (chosen : ℕ → TermData) (ps qs : List FormulaData) where
  -- the weight of the entry's formula is the row's number, up to the sign of the origin, at whatever index
  pub record IsReadAs (part : Part) (number : Inequality → ℤ) (row : Inequality) (origin : RowOrigin) : Type 0 where
    pub read : (position : ℕ) → StandsChosen class chosen ps qs origin position → row_weight part (row_of_entry (slice_get qs position)) ≡ Some (signed origin.is_turned (number row))

  module _ (part : Part) (number : Inequality → ℤ) where
    -- the sum with one more multiple
    one_more : (total m z : ℤ) (t : Bool) (w : Option ℤ) → w ≡ Some (signed t z) → Fits (m *ℤ z) → Fits (total +ℤ (m *ℤ z)) → kept_of ◌+ℤ◌ (Some total) (kept_of ◌*ℤ◌ (Some (signed t m)) w) ≡ Some (total +ℤ (m *ℤ z))
    one_more total m z t w e f g =
        ap (λ o. kept_of ◌+ℤ◌ (Some total) (kept_of ◌*ℤ◌ (Some (signed t m)) o)) e
        ∙ ap (λ x. kept_of ◌+ℤ◌ (Some total) (kept x)) (signed_product t m z)
        ∙ ap (kept_of ◌+ℤ◌ (Some total)) (kept_itself (m *ℤ z) f)
        ∙ kept_itself (total +ℤ (m *ℤ z)) g

    pub combined_is : (total : ℤ) (rows : List Inequality) (origins : List RowOrigin) (ms : List ℤ) (cited : List Multiple) → AllZip (IsReadAs part number) rows origins → StaysWithin number total ms rows → AreCited class chosen ps qs origins ms cited → combined part qs (Some total) cited ≡ Some (total +ℤ weighted_sum number ms rows)
    combined_is total [] _ _ _ reads stays NoneCited = ap Some (none_more total)
    combined_is total (row ∷ rows) _ _ _ reads stays NoneCited = absurd reads
    combined_is total [] _ _ _ reads stays (NotCited origin origins ms cited h) = absurd reads
    combined_is total (row ∷ rows) _ _ _ reads stays (NotCited origin origins ms cited h) =
        combined_is total rows origins ms cited reads.1 (subst (λ z. StaysWithin number z ms rows) same stays.1) h
        ∙ ap (λ z. Some (z +ℤ weighted_sum number ms rows)) (sym same)
        ∙ ap Some (regroup total (pos 0 *ℤ number row) (weighted_sum number ms rows))
      where
        same : total +ℤ (pos 0 *ℤ number row) ≡ total
        same = ap (λ z. total +ℤ z) (zero-*ℤ (number row)) ∙ sym (none_more total)
    combined_is total [] _ _ _ reads stays (OneCited origin origins m ms position cited stands h) = absurd reads
    combined_is total (row ∷ rows) _ _ _ reads stays (OneCited origin origins m ms position cited stands h) =
        ap (λ o. combined part qs o cited) (one_more total m (number row) origin.is_turned (row_weight part (row_of_entry (slice_get qs position))) (reads.0.read position stands) stays.0.0 stays.0.1)
        ∙ combined_is (total +ℤ (m *ℤ number row)) rows origins ms cited reads.1 stays.1 h
        ∙ ap Some (regroup total (m *ℤ number row) (weighted_sum number ms rows))

  -- ---- multipliers that may count

  -- the entry of the row has a row, which is an equation if this is the second row of one
  pub record MayCite (row : Inequality) (origin : RowOrigin) : Type 0 where
    pub stated : Row
    pub found : (position : ℕ) → StandsChosen class chosen ps qs origin position → row_of_entry (slice_get qs position) ≡ Some stated
    pub equation : origin.is_turned ≡ true → stated.is_equation ≡ true

  may_multiply : (row : Row) (t : Bool) (m : ℤ) → pos 0 ≤ℤ m → (t ≡ true → row.is_equation ≡ true) → MayMultiply (Some row) (signed t m)
  may_multiply row false (pos n) w e = tt
  may_multiply row false (negsuc n) w e = absurd (omega (arith, ints, w))
  may_multiply row true m w e = of_equation (pos 0 -ℤ m)
    where
      of_equation : (z : ℤ) → MayMultiply (Some row) z
      of_equation (pos n) = tt
      of_equation (negsuc n) = e refl

  pub all_count : (rows : List Inequality) (origins : List RowOrigin) (ms : List ℤ) (cited : List Multiple) → AllZip MayCite rows origins → All (λ m. pos 0 ≤ℤ m) ms → AreCited class chosen ps qs origins ms cited → All (MayCount qs) cited
  all_count rows _ _ _ may positive NoneCited = All-nil (MayCount qs)
  all_count [] _ _ _ may positive (NotCited origin origins ms cited h) = absurd may
  all_count (row ∷ rows) _ _ _ may positive (NotCited origin origins ms cited h) = all_count rows origins ms cited may.1 (All-tail (λ m. pos 0 ≤ℤ m) (pos 0) ms positive) h
  all_count [] _ _ _ may positive (OneCited origin origins m ms position cited stands h) = absurd may
  all_count (row ∷ rows) _ _ _ may positive (OneCited origin origins m ms position cited stands h) =
      All-cons (MayCount qs) (record { entry = position; multiplier = signed origin.is_turned m }) cited
      (subst (λ o. MayMultiply o (signed origin.is_turned m)) (sym (may.0.found position stands)) (may_multiply may.0.stated origin.is_turned m (All-head (λ x. pos 0 ≤ℤ x) m ms positive) may.0.equation))
      (all_count rows origins ms cited may.1 (All-tail (λ x. pos 0 ≤ℤ x) m ms positive) h)

-- ---- sums of no numbers, and of opposite ones

pub no_numbers : (ms : List ℤ) (rows : List Inequality) → weighted_sum (λ row. pos 0) ms rows ≡ pos 0
no_numbers [] rows = refl
no_numbers (m ∷ ms) [] = refl
no_numbers (m ∷ ms) (row ∷ rows) = (λ i. *ℤ-zero m i +ℤ no_numbers ms rows i)

pub nothing_stays : (ms : List ℤ) (rows : List Inequality) → StaysWithin (λ row. pos 0) (pos 0) ms rows
nothing_stays [] rows = tt
nothing_stays (m ∷ ms) [] = tt
nothing_stays (m ∷ ms) (row ∷ rows) = ((fits, subst Fits (sym sum) zero_fits), subst (λ z. StaysWithin (λ row. pos 0) z ms rows) (sym sum) (nothing_stays ms rows))
  where
    fits : Fits (m *ℤ pos 0)
    fits = subst Fits (sym (*ℤ-zero m)) zero_fits

    sum : pos 0 +ℤ (m *ℤ pos 0) ≡ pos 0
    sum = ap (λ z. pos 0 +ℤ z) (*ℤ-zero m)

module _ (number : Inequality → ℤ) where
  opposite_sum : (a b : ℤ) → (pos 0 -ℤ a) +ℤ (pos 0 -ℤ b) ≡ pos 0 -ℤ (a +ℤ b)
  opposite_sum a b = omega (arith, ints)

  opposite_fits : (z : ℤ) → Fits z → Fits (pos 0 -ℤ z)
  opposite_fits z f = (omega (arith, ints, f), omega (arith, ints, f))

  pub opposites : (ms : List ℤ) (rows : List Inequality) → weighted_sum (λ row. pos 0 -ℤ number row) ms rows ≡ pos 0 -ℤ weighted_sum number ms rows
  opposites [] rows = refl
  opposites (m ∷ ms) [] = refl
  opposites (m ∷ ms) (row ∷ rows) =
      (λ i. times_opposite m (number row) i +ℤ opposites ms rows i) ∙ opposite_sum (m *ℤ number row) (weighted_sum number ms rows)

  pub opposite_stays : (total : ℤ) (ms : List ℤ) (rows : List Inequality) → StaysWithin number total ms rows → StaysWithin (λ row. pos 0 -ℤ number row) (pos 0 -ℤ total) ms rows
  opposite_stays total [] rows h = tt
  opposite_stays total (m ∷ ms) [] h = tt
  opposite_stays total (m ∷ ms) (row ∷ rows) h = (
    (subst Fits (sym product) (opposite_fits (m *ℤ number row) h.0.0), subst Fits (sym sum) (opposite_fits (total +ℤ (m *ℤ number row)) h.0.1)),
    subst (λ z. StaysWithin (λ r. pos 0 -ℤ number r) z ms rows) (sym sum) (opposite_stays (total +ℤ (m *ℤ number row)) ms rows h.1),
  )
    where
      product : m *ℤ (pos 0 -ℤ number row) ≡ pos 0 -ℤ (m *ℤ number row)
      product = times_opposite m (number row)

      sum : (pos 0 -ℤ total) +ℤ (m *ℤ (pos 0 -ℤ number row)) ≡ pos 0 -ℤ (total +ℤ (m *ℤ number row))
      sum = ap (λ z. (pos 0 -ℤ total) +ℤ z) product ∙ opposite_sum total (m *ℤ number row)
