-- Weighted sums, one constraint at a time.
use Rattle.std.proofs.Common.{◌≡◌, ℕ, ◌<◌, ◌≤◌, ◌+◌, List, [], length, drop, get_or, pos, ℤ, ◌+ℤ◌, ◌*ℤ◌, refl, sym, ap, ◌∙◌, subst, arith, add-one, drop-cons, ◌↔◌}
use Rattle.std.proofs.Math.IntN.{zero-*ℤ}
use Rattle.std.proofs.lemmas.List.{drop_all}
use Rattle.std.proofs.lemmas.Int.{ints}
use Rattle.linear_arith.specs.Fits.{Fits}
use Rattle.linear_arith.specs.Inequality.{Inequality}
use Rattle.linear_arith.specs.Combination.{IsAdded, weighted_sum, StaysWithin}

-- the sum from a constraint on is that constraint's product plus the sum from the next one on
weighted_sum-drop : (part : Inequality → ℤ) (ms : List ℤ) (rows : List Inequality) (i : ℕ) (row : Inequality) → i < length ms → i < length rows → weighted_sum part (drop i ms) (drop i rows) ≡ (get_or ms i (pos 0) *ℤ part (get_or rows i row)) +ℤ weighted_sum part (drop (i + 1) ms) (drop (i + 1) rows)
weighted_sum-drop part ms rows i row h k = rw (add-one, drop-cons ms i (pos 0), drop-cons rows i row) refl

-- a total of the products before a constraint, with that constraint's product, is the total before the next
pub weighted_sum-step : (part : Inequality → ℤ) (ms : List ℤ) (rows : List Inequality) (i : ℕ) (row : Inequality) (total next whole : ℤ) → i < length ms → i < length rows → row ≡ get_or rows i row → next ≡ total +ℤ (get_or ms i (pos 0) *ℤ part row) → total +ℤ weighted_sum part (drop i ms) (drop i rows) ≡ whole → next +ℤ weighted_sum part (drop (i + 1) ms) (drop (i + 1) rows) ≡ whole
weighted_sum-step part ms rows i row total next whole h k e n w =
    let d = weighted_sum-drop part ms rows i row h k in
    let d' = rw (← e) at d in
    omega (arith, ints, n, w, d')

StaysWithin-drop : (part : Inequality → ℤ) (total : ℤ) (ms : List ℤ) (rows : List Inequality) (i : ℕ) (row : Inequality) → i < length ms → i < length rows → StaysWithin part total (drop i ms) (drop i rows) ≡ (IsAdded total (get_or ms i (pos 0) *ℤ part (get_or rows i row)) × StaysWithin part (total +ℤ (get_or ms i (pos 0) *ℤ part (get_or rows i row))) (drop (i + 1) ms) (drop (i + 1) rows))
StaysWithin-drop part total ms rows i row h k = rw (add-one, drop-cons ms i (pos 0), drop-cons rows i row) refl

as_itself : (A B : Type 0) → A ≡ B → A ↔ B
as_itself A B e = (λ a. subst (λ (T : Type 0). T) e a, λ b. subst (λ (T : Type 0). T) (sym e) b)

pub StaysWithin-step : (part : Inequality → ℤ) (ms : List ℤ) (rows : List Inequality) (i : ℕ) (row : Inequality) (total next : ℤ) → i < length ms → i < length rows → row ≡ get_or rows i row → next ≡ total +ℤ (get_or ms i (pos 0) *ℤ part row) → IsAdded total (get_or ms i (pos 0) *ℤ part row) → StaysWithin part total (drop i ms) (drop i rows) ↔ StaysWithin part next (drop (i + 1) ms) (drop (i + 1) rows)
StaysWithin-step part ms rows i row total next h k e n a =
    let d = rw (← e) at (StaysWithin-drop part total ms rows i row h k) in
    let w = as_itself _ _ d in
    rw n (λ s. (w.0 s).1, λ s. w.1 (a, s))

-- where a product or its sum does not fit, the whole sum is not computed in 128 bits
pub StaysWithin-fails : (part : Inequality → ℤ) (ms : List ℤ) (rows : List Inequality) (i : ℕ) (row : Inequality) (total : ℤ) → i < length ms → i < length rows → row ≡ get_or rows i row → ¬ (IsAdded total (get_or ms i (pos 0) *ℤ part row)) → ¬ (StaysWithin part total (drop i ms) (drop i rows))
StaysWithin-fails part ms rows i row total h k e n s =
    let d = rw (← e) at (StaysWithin-drop part total ms rows i row h k) in
    n ((as_itself _ _ d).0 s).0

-- after the last constraint the total is the whole sum
pub weighted_sum-end : (part : Inequality → ℤ) (ms : List ℤ) (rows : List Inequality) (i : ℕ) (total whole : ℤ) → length ms ≤ i → total +ℤ weighted_sum part (drop i ms) (drop i rows) ≡ whole → total ≡ whole
weighted_sum-end part ms rows i total whole h w =
    let e : total +ℤ weighted_sum part [] (drop i rows) ≡ whole = subst (λ (xs : List ℤ). total +ℤ weighted_sum part xs (drop i rows) ≡ whole) (drop_all i ms h) w in
    omega (arith, ints, e)

pub StaysWithin-end : (part : Inequality → ℤ) (ms : List ℤ) (rows : List Inequality) (i : ℕ) (total : ℤ) → length ms ≤ i → StaysWithin part total (drop i ms) (drop i rows)
StaysWithin-end part ms rows i total h = subst (λ (xs : List ℤ). StaysWithin part total xs (drop i rows)) (sym (drop_all i ms h)) tt

-- a multiplier of 0 adds nothing
zero_product : (total m z : ℤ) → m ≡ pos 0 → total ≡ total +ℤ (m *ℤ z)
zero_product total m z e = let p : m *ℤ z ≡ pos 0 = ap (λ (x : ℤ). x *ℤ z) e ∙ zero-*ℤ z in omega (arith, ints, p)

zero_is_added : (total m z : ℤ) → m ≡ pos 0 → Fits total → IsAdded total (m *ℤ z)
zero_is_added total m z e f =
    let p : m *ℤ z ≡ pos 0 = ap (λ (x : ℤ). x *ℤ z) e ∙ zero-*ℤ z in
    let zero_fits : Fits (pos 0) = (omega (arith, ints), omega (arith, ints)) in
    (subst (λ (x : ℤ). Fits x) (sym p) zero_fits, subst (λ (x : ℤ). Fits x) (zero_product total m z e) f)

pub weighted_sum-skip : (part : Inequality → ℤ) (ms : List ℤ) (rows : List Inequality) (i : ℕ) (row : Inequality) (total whole : ℤ) → i < length ms → i < length rows → row ≡ get_or rows i row → get_or ms i (pos 0) ≡ pos 0 → total +ℤ weighted_sum part (drop i ms) (drop i rows) ≡ whole → total +ℤ weighted_sum part (drop (i + 1) ms) (drop (i + 1) rows) ≡ whole
weighted_sum-skip part ms rows i row total whole h k e z w =
    weighted_sum-step part ms rows i row total total whole h k e (zero_product total (get_or ms i (pos 0)) (part row) z) w

pub StaysWithin-skip : (part : Inequality → ℤ) (ms : List ℤ) (rows : List Inequality) (i : ℕ) (row : Inequality) (total : ℤ) → i < length ms → i < length rows → row ≡ get_or rows i row → get_or ms i (pos 0) ≡ pos 0 → Fits total → StaysWithin part total (drop i ms) (drop i rows) ↔ StaysWithin part total (drop (i + 1) ms) (drop (i + 1) rows)
StaysWithin-skip part ms rows i row total h k e z f =
    StaysWithin-step part ms rows i row total total h k e (zero_product total (get_or ms i (pos 0)) (part row) z) (zero_is_added total (get_or ms i (pos 0)) (part row) z f)
