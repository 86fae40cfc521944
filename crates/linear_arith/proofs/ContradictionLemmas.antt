-- A combination with no unknown among the first ones has none at all, where no constraint has others.
use Rattle.std.proofs.Common.{◌≡◌, ℕ, suc, ◌<◌, ◌≤◌, List, [], ◌∷◌, length, get_or, pos, ℤ, ◌≤ℤ◌, ◌<ℤ◌, refl, sym, ◌∙◌, subst, arith, map, inl, inr}
use Rattle.std.specs.Prelude.{All}
use Rattle.std.specs.List.{range_with_len}
use Rattle.std.proofs.Math.IntN.{*ℤ-zero}
use Rattle.std.proofs.lemmas.List.FromFn.{get_or-map-range_with_len, length-map-range_with_len}
use Rattle.linear_arith.proofs.ListLemmas.{get_or-past, below_or_past}
use Rattle.linear_arith.specs.Inequality.{Inequality, coefficient, IsWithinWidth}
use Rattle.linear_arith.proofs.FitSystemLemmas.{zero_fits}
use Rattle.linear_arith.specs.Combination.{weighted_sum, StaysWithin, combination, CombinesWithin, IsContradiction}

weighted_sum-zero : (part : Inequality → ℤ) (ms : List ℤ) (rows : List Inequality) → All (λ row. part row ≡ pos 0) rows → weighted_sum part ms rows ≡ pos 0
weighted_sum-zero part [] rows h = refl
weighted_sum-zero part (m ∷ ms) [] h = refl
weighted_sum-zero part (m ∷ ms) (row ∷ rows) h =
    let here : part row ≡ pos 0 = h 0 row (omega arith) in
    let rest = weighted_sum-zero part ms rows (λ k d l. h (suc k) d (omega arith)) in
    rw (here, *ℤ-zero m, rest) refl

StaysWithin-zero : (part : Inequality → ℤ) (ms : List ℤ) (rows : List Inequality) → All (λ row. part row ≡ pos 0) rows → StaysWithin part (pos 0) ms rows
StaysWithin-zero part [] rows h = tt
StaysWithin-zero part (m ∷ ms) [] h = tt
StaysWithin-zero part (m ∷ ms) (row ∷ rows) h =
    let here : part row ≡ pos 0 = h 0 row (omega arith) in
    let rest = StaysWithin-zero part ms rows (λ k d l. h (suc k) d (omega arith)) in
    rw (here, *ℤ-zero m) ((zero_fits, zero_fits), rest)

past_width : (width : ℕ) (rows : List Inequality) (u : ℕ) → IsWithinWidth width rows → width ≤ u → All (λ row. coefficient u row ≡ pos 0) rows
past_width width rows u within h k d l =
    get_or-past (get_or rows k d).coefficients u (pos 0) (let w = within k d l in omega arith)

pub contradicts : (width : ℕ) (ms : List ℤ) (rows : List Inequality) (total : Inequality) → length ms ≡ length rows → All (λ m. pos 0 ≤ℤ m) ms → IsWithinWidth width rows → CombinesWithin width ms rows → total ≡ combination width ms rows → total.bound <ℤ pos 0 → All (λ c. c ≡ pos 0) total.coefficients → IsContradiction rows ms
contradicts width ms rows total same not_negative within fits is bound zeros = record {
  one_each = same;
  not_negative = not_negative;
  no_unknown_left = λ u. elim (below_or_past u width) [ inl l ↦ below u l | inr l ↦ weighted_sum-zero (coefficient u) ms rows (past_width width rows u within l) ];
  negative_bound = subst (λ (t : Inequality). t.bound <ℤ pos 0) is bound;
  coefficients_within = λ u. elim (below_or_past u width) [ inl l ↦ fits.coefficients u l | inr l ↦ StaysWithin-zero (coefficient u) ms rows (past_width width rows u within l) ];
  bounds_within = fits.bound;
}
  where
    below : (u : ℕ) → u < width → weighted_sum (coefficient u) ms rows ≡ pos 0
    below u l =
        let zs = subst (λ (t : Inequality). All (λ c. c ≡ pos 0) t.coefficients) is zeros in
        let len = length-map-range_with_len (λ v. weighted_sum (coefficient v) ms rows) 0 width in
        let at : get_or (map (λ v. weighted_sum (coefficient v) ms rows) (range_with_len 0 width)) u (pos 0) ≡ weighted_sum (coefficient u) ms rows = get_or-map-range_with_len (λ v. weighted_sum (coefficient v) ms rows) 0 width u u (pos 0) l (omega arith) in
        sym at ∙ zs u (pos 0) (omega (arith, len))
