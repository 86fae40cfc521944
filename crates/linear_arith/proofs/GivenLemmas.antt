-- A given constraint is the combination of the given constraints with the multiplier 1 for itself and 0 for the others.
use Rattle.std.proofs.Common.{◌≡◌, ◌≢◌, ℕ, zero, suc, ◌<◌, ◌≤◌, List, [], ◌∷◌, length, get_or, pos, ℤ, ◌+ℤ◌, ◌<ℤ◌, refl, sym, ap, ◌∙◌, subst, arith, map, inl, inr}
use Rattle.std.specs.Prelude.{All}
use Rattle.std.specs.List.{range_with_len}
use Rattle.std.proofs.Math.IntN.{zero-*ℤ}
use Rattle.std.proofs.lemmas.Int.{ints}
use Rattle.std.proofs.lemmas.List.FromFn.{get_or-map-range_with_len, length-map-range_with_len}
use Rattle.linear_arith.specs.Fits.{Fits, IsFitting}
use Rattle.linear_arith.specs.Inequality.{Inequality, coefficient, padded}
use Rattle.linear_arith.specs.Combination.{number, weighted_sum, StaysWithin, bound_of, combination, IsContradiction}
use Rattle.linear_arith.specs.Elimination.{IsUnit}
use Rattle.linear_arith.specs.Elimination.IsRowOfStage.{given}
use Rattle.linear_arith.specs.Stages.{IsDerived, IsSound}
use Rattle.linear_arith.specs.Substitution.{form_of}
use Rattle.linear_arith.specs.declared.elimination.Derived.{Derived}
use Rattle.std.proofs.lemmas.List.Elements.{All-nil}
use Rattle.linear_arith.proofs.ClosureLemmas.{IsMultiple, multiple_of_itself}
use Rattle.base.proofs.WholeNumbers.{one_mul}
use Rattle.linear_arith.proofs.ListLemmas.{get_or-past, below_or_past}
use Rattle.linear_arith.proofs.FitSystemLemmas.{zero_fits}
use Rattle.linear_arith.proofs.StageLemmas.{unit_multipliers, width_of_combination}

-- all multipliers are 0
no_sum : (part : Inequality → ℤ) (ms : List ℤ) (rows : List Inequality) → ((k : ℕ) → number k ms ≡ pos 0) → weighted_sum part ms rows ≡ pos 0
no_sum part [] rows h = refl
no_sum part (m ∷ ms) [] h = refl
no_sum part (m ∷ ms) (row ∷ rows) h =
    let here : m ≡ pos 0 = h 0 in
    let rest = no_sum part ms rows (λ k. h (suc k)) in
    rw (here, zero-*ℤ (part row), rest) refl

no_sum_within : (part : Inequality → ℤ) (total : ℤ) (ms : List ℤ) (rows : List Inequality) → Fits total → ((k : ℕ) → number k ms ≡ pos 0) → StaysWithin part total ms rows
no_sum_within part total [] rows f h = tt
no_sum_within part total (m ∷ ms) [] f h = tt
no_sum_within part total (m ∷ ms) (row ∷ rows) f h =
    let here : m ≡ pos 0 = h 0 in
    let same : total +ℤ pos 0 ≡ total = omega (arith, ints) in
    let rest = no_sum_within part total ms rows f (λ k. h (suc k)) in
    rw (here, zero-*ℤ (part row), same) ((zero_fits, f), rest)

unit_sum : (part : Inequality → ℤ) (ms : List ℤ) (rows : List Inequality) (i : ℕ) (d : Inequality) → length ms ≡ length rows → i < length rows → number i ms ≡ pos 1 → ((k : ℕ) → k ≢ i → number k ms ≡ pos 0) → weighted_sum part ms rows ≡ part (get_or rows i d)
unit_sum part ms [] i d e l one others = absurd (omega (arith, l))
unit_sum part [] (row ∷ rows) i d e l one others = absurd (omega (arith, e))
unit_sum part (m ∷ ms) (row ∷ rows) zero d e l one others =
    let here : m ≡ pos 1 = one in
    let rest = no_sum part ms rows (λ k. others (suc k) (λ z. omega (arith, z))) in
    let same : part row +ℤ pos 0 ≡ part row = omega (arith, ints) in
    rw (here, one_mul (part row), rest, same) refl
unit_sum part (m ∷ ms) (row ∷ rows) (suc i) d e l one others =
    let here : m ≡ pos 0 = others 0 (λ z. omega (arith, z)) in
    let rest = unit_sum part ms rows i d (omega (arith, e)) (omega (arith, l)) one (λ k n. others (suc k) (λ z. n (omega (arith, z)))) in
    let same : pos 0 +ℤ part (get_or rows i d) ≡ part (get_or rows i d) = omega (arith, ints) in
    rw (here, zero-*ℤ (part row), rest, same) refl

unit_within : (part : Inequality → ℤ) (ms : List ℤ) (rows : List Inequality) (i : ℕ) (d : Inequality) → length ms ≡ length rows → i < length rows → number i ms ≡ pos 1 → ((k : ℕ) → k ≢ i → number k ms ≡ pos 0) → Fits (part (get_or rows i d)) → StaysWithin part (pos 0) ms rows
unit_within part ms [] i d e l one others f = absurd (omega (arith, l))
unit_within part [] (row ∷ rows) i d e l one others f = absurd (omega (arith, e))
unit_within part (m ∷ ms) (row ∷ rows) zero d e l one others f =
    let here : m ≡ pos 1 = one in
    let same : pos 0 +ℤ part row ≡ part row = omega (arith, ints) in
    rw (here, one_mul (part row), same) ((f, f), no_sum_within part (part row) ms rows f (λ k. others (suc k) (λ z. omega (arith, z))))
unit_within part (m ∷ ms) (row ∷ rows) (suc i) d e l one others f =
    let here : m ≡ pos 0 = others 0 (λ z. omega (arith, z)) in
    let rest = unit_within part ms rows i d (omega (arith, e)) (omega (arith, l)) one (λ k n. others (suc k) (λ z. n (omega (arith, z)))) f in
    rw (here, zero-*ℤ (part row)) ((zero_fits, zero_fits), rest)

pub padded_is : (width : ℕ) (ms : List ℤ) (rows : List Inequality) (i : ℕ) (row : Inequality) → IsUnit (length rows) i ms → row ≡ get_or rows i row → padded width row ≡ combination width ms rows
padded_is width ms rows i row h is = λ j. record {
  coefficients = map (λ (u : ℕ). at (coefficient u) j) (range_with_len 0 width);
  bound = at bound_of j;
}
  where
    at : (part : Inequality → ℤ) → part row ≡ weighted_sum part ms rows
    at part = ap part is ∙ sym (unit_sum part ms rows i row h.one_each h.is_one h.itself h.others)

-- a given constraint that is a contradiction
pub given_contradicts : (width : ℕ) (ms : List ℤ) (rows : List Inequality) (i : ℕ) (row : Inequality) → IsUnit (length rows) i ms → row ≡ get_or rows i row → length row.coefficients ≤ width → Fits row.bound → row.bound <ℤ pos 0 → All (λ c. c ≡ pos 0) (padded width row).coefficients → IsContradiction rows ms
given_contradicts width ms rows i row h is short f b zeros =
    let none = λ (u : ℕ). elim (below_or_past u width) as (λ _. coefficient u row ≡ pos 0) [
      | inl l ↦
          let len = length-map-range_with_len (λ v. coefficient v row) 0 width in
          let at : get_or (map (λ v. coefficient v row) (range_with_len 0 width)) u (pos 0) ≡ coefficient u row = get_or-map-range_with_len (λ v. coefficient v row) 0 width u u (pos 0) l (omega arith) in
          sym at ∙ zeros u (pos 0) (omega (arith, len, l))
      | inr l ↦ get_or-past row.coefficients u (pos 0) (omega (arith, short, l))
    ] in
    let at = λ (part : Inequality → ℤ). ap part is in
    let m = unit_multipliers rows i ms h in
    record {
      one_each = m.one_each;
      not_negative = m.not_negative;
      no_unknown_left = λ u. unit_sum (coefficient u) ms rows i row h.one_each h.is_one h.itself h.others ∙ sym (at (coefficient u)) ∙ none u;
      negative_bound = subst (λ (z : ℤ). z <ℤ pos 0) (at bound_of ∙ sym (unit_sum bound_of ms rows i row h.one_each h.is_one h.itself h.others)) b;
      coefficients_within = λ u. unit_within (coefficient u) ms rows i row h.one_each h.is_one h.itself h.others (subst (λ (z : ℤ). Fits z) (sym (none u) ∙ at (coefficient u)) zero_fits);
      bounds_within = unit_within bound_of ms rows i row h.one_each h.is_one h.itself h.others (subst (λ (z : ℤ). Fits z) (at bound_of) f);
    }

-- a given constraint as a constraint of the first stage
pub given_derived : (width : ℕ) (rows : List Inequality) (i : ℕ) (made : Derived) → IsUnit (length rows) i made.multipliers → made.row ≡ combination width made.multipliers rows → made.total ≡ combination width made.multipliers rows → IsSound made.row → IsFitting made.row → IsDerived width rows [] made
given_derived width rows i made unit is total sound fits =
    let scaled = subst (λ (r : Inequality). IsMultiple made.row r) (is ∙ sym total) (multiple_of_itself made.row) in record {
      of_stage = given i made.row made.multipliers unit is;
      is_total = total;
      multipliers = unit_multipliers rows i made.multipliers unit;
      same_width = ap (λ (r : Inequality). length r.coefficients) is ∙ width_of_combination width made.multipliers rows;
      scale = scaled.scale;
      positive = scaled.positive;
      is_scaled = scaled.is_scaled;
      without = All-nil (λ (u : ℕ). coefficient u made.row ≡ pos 0);
      sound = sound;
      fits = fits;
    }

-- a given constraint has the form of its constraint of the first stage
pub padded_form : (width : ℕ) (row : Inequality) → length row.coefficients ≤ width → form_of (padded width row) ≡ form_of row
padded_form width row short = λ j. record { at = λ (u : ℕ). same u j; bound = row.bound }
  where
    same : (u : ℕ) → coefficient u (padded width row) ≡ coefficient u row
    same u = elim (below_or_past u width) [
      | inl l ↦ get_or-map-range_with_len (λ v. coefficient v row) 0 width u u (pos 0) l (omega arith)
      | inr l ↦
          let len = length-map-range_with_len (λ v. coefficient v row) 0 width in
          get_or-past (padded width row).coefficients u (pos 0) (omega (arith, len, l)) ∙ sym (get_or-past row.coefficients u (pos 0) (omega (arith, short, l)))
    ]
