-- Combinations of constraints, computed one constraint after another.
use Rattle.std.proofs.Common.{◌≡◌, ℕ, zero, suc, ◌<◌, ◌≤◌, ◌+◌, List, length, map, drop, get_or, replicate, pos, ℤ, ◌+ℤ◌, ◌*ℤ◌, sym, ap, ◌∙◌, subst, arith, ◌↔◌}
use Rattle.std.specs.List.{range_with_len}
use Rattle.std.proofs.lemmas.List.{ext_get_or, get_or-replicate, length-replicate}
use Rattle.std.proofs.lemmas.List.FromFn.{get_or-map-range_with_len, length-map-range_with_len}
use Rattle.std.proofs.lemmas.Int.{ints}
use Rattle.linear_arith.specs.Fits.{Fits}
use Rattle.linear_arith.specs.Inequality.{Inequality, coefficient}
use Rattle.linear_arith.specs.Combination.{IsAdded, weighted_sum, StaysWithin, combination, CombinesWithin, number, bound_of, IsAddedTo, AddedLeaves}
use Rattle.linear_arith.proofs.ListLemmas.{get_or-any_default}
use Rattle.linear_arith.proofs.CombinationLemmas.{weighted_sum-step, StaysWithin-step, weighted_sum-skip, StaysWithin-skip, StaysWithin-fails, weighted_sum-end, StaysWithin-end}

-- a total of the products of the constraints before one, in a sum whose numbers are in 128 bits so far
pub record HasProducts (part : Inequality → ℤ) (ms : List ℤ) (rows : List Inequality) (i : ℕ) (total : ℤ) : Type 0 where
  pub fits : Fits total
  pub value : total +ℤ weighted_sum part (drop i ms) (drop i rows) ≡ weighted_sum part ms rows
  pub within : StaysWithin part (pos 0) ms rows ↔ StaysWithin part total (drop i ms) (drop i rows)

pub products_begin : (part : Inequality → ℤ) (ms : List ℤ) (rows : List Inequality) → HasProducts part ms rows 0 (pos 0)
products_begin part ms rows = record { fits = (omega (arith, ints), omega (arith, ints)); value = zero_more (weighted_sum part ms rows); within = (λ s. s, λ s. s) }
  where
    zero_more : (z : ℤ) → pos 0 +ℤ z ≡ z
    zero_more z = omega (arith, ints)

pub products_step : (part : Inequality → ℤ) (ms : List ℤ) (rows : List Inequality) (i : ℕ) (row : Inequality) (total next : ℤ) → i < length ms → i < length rows → row ≡ get_or rows i row → next ≡ total +ℤ (get_or ms i (pos 0) *ℤ part row) → IsAdded total (get_or ms i (pos 0) *ℤ part row) → HasProducts part ms rows i total → HasProducts part ms rows (i + 1) next
products_step part ms rows i row total next h k e n a before =
    let step = StaysWithin-step part ms rows i row total next h k e n a in
    record {
      fits = subst (λ (z : ℤ). Fits z) (sym n) a.1;
      value = weighted_sum-step part ms rows i row total next (weighted_sum part ms rows) h k e n before.value;
      within = (λ s. step.0 (before.within.0 s), λ s. before.within.1 (step.1 s));
    }

products_skip : (part : Inequality → ℤ) (ms : List ℤ) (rows : List Inequality) (i : ℕ) (total : ℤ) → i < length ms → i < length rows → get_or ms i (pos 0) ≡ pos 0 → HasProducts part ms rows i total → HasProducts part ms rows (i + 1) total
products_skip part ms rows i total h k z before =
    let none : Inequality = record { coefficients = ms; bound = pos 0 } in
    let row = get_or rows i none in
    let is : row ≡ get_or rows i row = get_or-any_default rows i none row k in
    let step = StaysWithin-skip part ms rows i row total h k is z before.fits in
    record {
      fits = before.fits;
      value = weighted_sum-skip part ms rows i row total (weighted_sum part ms rows) h k is z before.value;
      within = (λ s. step.0 (before.within.0 s), λ s. before.within.1 (step.1 s));
    }

-- multipliers of 0 do not change the total
pub products_past : (part : Inequality → ℤ) (ms : List ℤ) (rows : List Inequality) (i n : ℕ) (total : ℤ) → length ms ≡ length rows → i + n ≤ length rows → ((k : ℕ) → k < n → get_or ms (k + i) (pos 0) ≡ pos 0) → HasProducts part ms rows i total → HasProducts part ms rows (i + n) total
products_past part ms rows i zero total e l z before = subst (λ (j : ℕ). HasProducts part ms rows j total) (none_more i) before
  where
    none_more : (i : ℕ) → i ≡ i + 0
    none_more i = omega arith
products_past part ms rows i (suc n) total e l z before =
    let at : get_or ms (n + i) (pos 0) ≡ pos 0 = z n (omega arith) in
    let earlier = products_past part ms rows i n total e (omega (arith, l)) (λ k b. z k (omega (arith, b))) before in
    let here : get_or ms (i + n) (pos 0) ≡ pos 0 = ap (λ (j : ℕ). get_or ms j (pos 0)) (swap i n) ∙ at in
    subst (λ (j : ℕ). HasProducts part ms rows j total) (one_more i n) (products_skip part ms rows (i + n) total (omega (arith, e, l)) (omega (arith, l)) here earlier)
  where
    swap : (i n : ℕ) → i + n ≡ n + i
    swap i n = omega arith

    one_more : (i n : ℕ) → (i + n) + 1 ≡ i + suc n
    one_more i n = omega arith

pub products_end : (part : Inequality → ℤ) (ms : List ℤ) (rows : List Inequality) (total : ℤ) → length ms ≡ length rows → HasProducts part ms rows (length rows) total → (total ≡ weighted_sum part ms rows) × StaysWithin part (pos 0) ms rows
products_end part ms rows total e before =
    let l : length ms ≤ length rows = omega (arith, e) in
    (weighted_sum-end part ms rows (length rows) total (weighted_sum part ms rows) l before.value, before.within.1 (StaysWithin-end part ms rows (length rows) total l))

pub products_fail : (part : Inequality → ℤ) (ms : List ℤ) (rows : List Inequality) (i : ℕ) (row : Inequality) (total : ℤ) → i < length ms → i < length rows → row ≡ get_or rows i row → ¬ (IsAdded total (get_or ms i (pos 0) *ℤ part row)) → HasProducts part ms rows i total → ¬ (StaysWithin part (pos 0) ms rows)
products_fail part ms rows i row total h k e n before s = StaysWithin-fails part ms rows i row total h k e n (before.within.0 s)

-- the same for each coefficient and for the bound
pub record HasCombined (width : ℕ) (ms : List ℤ) (rows : List Inequality) (i : ℕ) (totals : List ℤ) (bound : ℤ) : Type 0 where
  pub len : length totals ≡ width
  pub coefficients : (u : ℕ) → u < width → HasProducts (coefficient u) ms rows i (number u totals)
  pub bounds : HasProducts bound_of ms rows i bound

zero_at : (width u : ℕ) → u < width → number u (replicate width (pos 0)) ≡ pos 0
zero_at width u l = get_or-replicate width u (pos 0) (pos 0) l

pub combined_begin : (width : ℕ) (ms : List ℤ) (rows : List Inequality) (totals : List ℤ) → totals ≡ replicate width (pos 0) → HasCombined width ms rows 0 totals (pos 0)
combined_begin width ms rows totals e = record {
  len = ap (λ (xs : List ℤ). length xs) e ∙ length-replicate width (pos 0);
  coefficients = λ u l. subst (λ (z : ℤ). HasProducts (coefficient u) ms rows 0 z) (sym (ap (number u) e ∙ zero_at width u l)) (products_begin (coefficient u) ms rows);
  bounds = products_begin bound_of ms rows;
}

pub combined_past : (width : ℕ) (ms : List ℤ) (rows : List Inequality) (i n : ℕ) (totals : List ℤ) (bound : ℤ) → length ms ≡ length rows → i + n ≤ length rows → ((k : ℕ) → k < n → get_or ms (k + i) (pos 0) ≡ pos 0) → HasCombined width ms rows i totals bound → HasCombined width ms rows (i + n) totals bound
combined_past width ms rows i n totals bound e l z before = record {
  len = before.len;
  coefficients = λ u b. products_past (coefficient u) ms rows i n (number u totals) e l z (before.coefficients u b);
  bounds = products_past bound_of ms rows i n bound e l z before.bounds;
}

pub combined_step : (width : ℕ) (ms : List ℤ) (rows : List Inequality) (i : ℕ) (row : Inequality) (m : ℤ) (totals more : List ℤ) (bound next : ℤ) → length ms ≡ length rows → i < length rows → row ≡ get_or rows i row → m ≡ get_or ms i (pos 0) → length more ≡ length totals → ((u : ℕ) → u < length totals → IsAddedTo m u row (number u totals) (number u more)) → IsAdded bound (m *ℤ row.bound) → next ≡ bound +ℤ (m *ℤ row.bound) → HasCombined width ms rows i totals bound → HasCombined width ms rows (i + 1) more next
combined_step width ms rows i row m totals more bound next e l is at same added fits sum before = record {
  len = same ∙ before.len;
  coefficients = λ u b.
      let a = added u (omega (arith, before.len, b)) in
      products_step (coefficient u) ms rows i row (number u totals) (number u more) (omega (arith, e, l)) l is (a.is_sum ∙ ap (λ (z : ℤ). number u totals +ℤ (z *ℤ coefficient u row)) at) (subst (λ (z : ℤ). IsAdded (number u totals) (z *ℤ coefficient u row)) at a.is_added) (before.coefficients u b);
  bounds = products_step bound_of ms rows i row bound next (omega (arith, e, l)) l is (sum ∙ ap (λ (z : ℤ). bound +ℤ (z *ℤ row.bound)) at) (subst (λ (z : ℤ). IsAdded bound (z *ℤ row.bound)) at fits) before.bounds;
}

pub combined_leaves : (width : ℕ) (ms : List ℤ) (rows : List Inequality) (i : ℕ) (row : Inequality) (m : ℤ) (totals : List ℤ) (bound : ℤ) → length ms ≡ length rows → i < length rows → row ≡ get_or rows i row → m ≡ get_or ms i (pos 0) → AddedLeaves m row totals → HasCombined width ms rows i totals bound → ¬ (CombinesWithin width ms rows)
combined_leaves width ms rows i row m totals bound e l is at leaves before whole =
    let u = leaves.unknown in
    let b : u < width = omega (arith, before.len, leaves.is_within) in
    let gone = subst (λ (z : ℤ). ¬ (IsAdded (number u totals) (z *ℤ coefficient u row))) at leaves.leaves in
    products_fail (coefficient u) ms rows i row (number u totals) (omega (arith, e, l)) l is gone (before.coefficients u b) (whole.coefficients u b)

pub bound_leaves : (width : ℕ) (ms : List ℤ) (rows : List Inequality) (i : ℕ) (row : Inequality) (m : ℤ) (totals : List ℤ) (bound : ℤ) → length ms ≡ length rows → i < length rows → row ≡ get_or rows i row → m ≡ get_or ms i (pos 0) → ¬ (IsAdded bound (m *ℤ row.bound)) → HasCombined width ms rows i totals bound → ¬ (CombinesWithin width ms rows)
bound_leaves width ms rows i row m totals bound e l is at leaves before whole =
    let gone = subst (λ (z : ℤ). ¬ (IsAdded bound (z *ℤ row.bound))) at leaves in
    products_fail bound_of ms rows i row bound (omega (arith, e, l)) l is gone before.bounds whole.bound

-- after the last constraint the totals are the combination
pub combined_end : (width : ℕ) (ms : List ℤ) (rows : List Inequality) (totals : List ℤ) (bound : ℤ) → length ms ≡ length rows → HasCombined width ms rows (length rows) totals bound → CombinesWithin width ms rows × (record { coefficients = totals; bound = bound } ≡ combination width ms rows)
combined_end width ms rows totals bound e before =
    let sums = λ (u : ℕ). weighted_sum (coefficient u) ms rows in
    let made : length (map sums (range_with_len 0 width)) ≡ width = length-map-range_with_len sums 0 width in
    let len = before.len in
    let ends = λ (u : ℕ) (l : u < width). products_end (coefficient u) ms rows (number u totals) e (before.coefficients u l) in
    let same : totals ≡ map sums (range_with_len 0 width) = ext_get_or (pos 0) totals (map sums (range_with_len 0 width)) (omega (arith, len, made)) (λ u l.
    let b : u < width = omega (arith, len, l) in
    (ends u b).0 ∙ sym (get_or-map-range_with_len sums 0 width u u (pos 0) b (omega arith))) in
    let last = products_end bound_of ms rows bound e before.bounds in
    let one : record { coefficients = totals; bound = bound } ≡ record { coefficients = map sums (range_with_len 0 width); bound = bound } = ap (λ (xs : List ℤ). record { coefficients = xs; bound = bound }) same in
    (record { coefficients = λ u l. (ends u l).1; bound = last.1 }, one ∙ ap (λ (z : ℤ). record { coefficients = map sums (range_with_len 0 width); bound = z }) last.0)
