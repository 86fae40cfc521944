-- Constraints whose numbers fit 128 bits.
use Rattle.std.proofs.Common.{◌≡◌, ℕ, zero, suc, ◌*◌, ◌-◌, ◌^◌, ◌<◌, List, [], ◌∷◌, get_or, map, pos, negsuc, ℤ, ◌+ℤ◌, ◌*ℤ◌, ◌<ℤ◌, refl, sym, subst, arith, ◌⊎◌, inl, inr}
use Rattle.std.specs.List.{range_with_len}
use Rattle.std.proofs.lemmas.Int.{ints}
use Rattle.std.proofs.lemmas.List.FromFn.{get_or-map-range_with_len, length-map-range_with_len}
use Rattle.linear_arith.specs.Fits.{Fits, IsFitting}
use Rattle.linear_arith.specs.Inequality.{Inequality, coefficient, padded}
use Rattle.linear_arith.specs.Combination.{weighted_sum, bound_of, StaysWithin, combination, CombinesWithin}
use Rattle.linear_arith.specs.Reduction.{IsReduced}
use Rattle.linear_arith.proofs.ListLemmas.{get_or-past, below_or_past}

pub zero_fits : Fits (pos 0)
zero_fits = (omega (arith, ints), omega (arith, ints))

zero_or_positive : (n : ℕ) → (n ≡ 0) ⊎ (0 < n)
zero_or_positive zero = inl refl
zero_or_positive (suc n) = inr (omega arith)

-- a number of which a multiple fits
divisor_fits : (k : ℕ) (a b : ℤ) → 0 < k → pos k *ℤ a ≡ b → Fits b → Fits a
divisor_fits zero a b p e f = absurd (omega (arith, p))
divisor_fits (suc k) (pos n) b p e f =
    let below : pos (suc k * n) <ℤ pos (2 ^ 127) = subst (λ (z : ℤ). z <ℤ pos (2 ^ 127)) (sym e) f.1 in
    (omega (arith, ints), omega (arith, ints, below))
divisor_fits (suc k) (negsuc n) b p e f =
    let above : negsuc (2 ^ 127 - 1) <ℤ (pos (suc k) *ℤ negsuc n) = subst (λ (z : ℤ). negsuc (2 ^ 127 - 1) <ℤ z) (sym e) f.0 in
    (omega (arith, ints, above), omega (arith, ints))

pub reduced_fits : (row reduced : Inequality) → IsReduced row reduced → IsFitting row → IsFitting reduced
reduced_fits row reduced h f = elim (zero_or_positive h.divisor) [
  | inl z ↦ subst (λ (r : Inequality). IsFitting r) (sym (h.zeros z)) f
  | inr p ↦ (λ u. divisor_fits h.divisor (coefficient u reduced) (coefficient u row) p ((h.quotient p).coefficients u) (f.0 u), divisor_fits h.divisor reduced.bound row.bound p (h.quotient p).bound f.1)
]

-- the coefficients of the first unknowns, and 0 for others
first_fit : (f : ℕ → ℤ) (width : ℕ) → ((u : ℕ) → u < width → Fits (f u)) → (u : ℕ) → Fits (get_or (map f (range_with_len 0 width)) u (pos 0))
first_fit f width h u = elim (below_or_past u width) as (λ _. Fits (get_or (map f (range_with_len 0 width)) u (pos 0))) [
  | inl l ↦ subst (λ (z : ℤ). Fits z) (sym (get_or-map-range_with_len f 0 width u u (pos 0) l (omega arith))) (h u l)
  | inr l ↦
      let len = length-map-range_with_len f 0 width in
      subst (λ (z : ℤ). Fits z) (sym (get_or-past (map f (range_with_len 0 width)) u (pos 0) (omega (arith, len, l)))) zero_fits
]

pub padded_fits : (width : ℕ) (row : Inequality) → IsFitting row → IsFitting (padded width row)
padded_fits width row f = (first_fit (λ (u : ℕ). coefficient u row) width (λ u l. f.0 u), f.1)

-- a sum whose numbers are all in 128 bits
within_fits : (part : Inequality → ℤ) (total : ℤ) (ms : List ℤ) (rows : List Inequality) → Fits total → StaysWithin part total ms rows → Fits (total +ℤ weighted_sum part ms rows)
within_fits part total [] rows f s = subst (λ (z : ℤ). Fits z) (none_more total) f
  where
    none_more : (z : ℤ) → z ≡ z +ℤ pos 0
    none_more z = omega (arith, ints)
within_fits part total (m ∷ ms) [] f s = subst (λ (z : ℤ). Fits z) (none_more total) f
  where
    none_more : (z : ℤ) → z ≡ z +ℤ pos 0
    none_more z = omega (arith, ints)
within_fits part total (m ∷ ms) (row ∷ rows) f s =
    subst (λ (z : ℤ). Fits z) (regroup total (m *ℤ part row) (weighted_sum part ms rows)) (within_fits part (total +ℤ (m *ℤ part row)) ms rows s.0.1 s.1)
  where
    regroup : (a b c : ℤ) → (a +ℤ b) +ℤ c ≡ a +ℤ (b +ℤ c)
    regroup a b c = omega (arith, ints)

sum_fits : (part : Inequality → ℤ) (ms : List ℤ) (rows : List Inequality) → StaysWithin part (pos 0) ms rows → Fits (weighted_sum part ms rows)
sum_fits part ms rows s = subst (λ (z : ℤ). Fits z) (zero_more (weighted_sum part ms rows)) (within_fits part (pos 0) ms rows zero_fits s)
  where
    zero_more : (z : ℤ) → pos 0 +ℤ z ≡ z
    zero_more z = omega (arith, ints)

pub combination_fits : (width : ℕ) (ms : List ℤ) (rows : List Inequality) → CombinesWithin width ms rows → IsFitting (combination width ms rows)
combination_fits width ms rows w = (first_fit (λ (u : ℕ). weighted_sum (coefficient u) ms rows) width (λ u l. sum_fits (coefficient u) ms rows (w.coefficients u l)), sum_fits bound_of ms rows w.bound)
