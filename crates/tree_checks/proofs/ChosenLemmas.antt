-- Rows with the same numbers, and eliminations of them.
use Rattle.std.proofs.Common.{◌≡◌, ◌↔◌, inl, inr, ℕ, zero, suc, ◌+◌, ◌<◌, ◌≤◌, max, Bool, IsTrue, pos, List, [], ◌∷◌, ◌++◌, length, get_or, map, take, Some, None, refl, sym, ap, ◌∙◌, subst, arith}
use Rattle.std.specs.Prelude.{slice_get, All, Contains}
use Rattle.std.specs.List.{AllZip, range_with_len}
use Rattle.std.proofs.lemmas.Bool.{cases_lt}
use Rattle.std.proofs.lemmas.List.{get_or_past, take_more, map-append}
use Rattle.std.proofs.lemmas.List.Elements.{All-nil, All-cons, All-map, All-push, length_all_zip, AllZip-get_or}
use Rattle.std.proofs.lemmas.List.FromFn.{length-map-range_with_len, get_or-map-range_with_len}
use Rattle.linear_arith.specs.Inequality.{Inequality, coefficient, padded, IsWithinWidth}
use Rattle.linear_arith.specs.declared.rows.Fraction.{Fraction}
use Rattle.step_checks.specs.Given.{rows_of, width_of, IsOfOrigin, AreOfOrigins}
use Rattle.step_checks.specs.GivenValues.{AreGivenValues}
use Rattle.step_checks.specs.declared.elimination.Origin.{Origin}
use Rattle.step_checks.specs.declared.elimination.Origin.TheVariants.{Given, Sum}
use Rattle.step_checks.specs.declared.elimination.GivenRow.{GivenRow}
use Rattle.step_checks.specs.declared.elimination.GivenElimination.{GivenElimination}
use Rattle.tree_checks.specs.Chosen.{HaveSameNumbers, AreChosenFor, width_of_first, IsWithin, ArePadded}

-- ---- rows with the same numbers

pub alike_turned : (rs ss : List Inequality) → AllZip HaveSameNumbers rs ss → AllZip HaveSameNumbers ss rs
alike_turned [] [] h = tt
alike_turned [] (s ∷ ss) h = absurd h
alike_turned (r ∷ rs) [] h = absurd h
alike_turned (r ∷ rs) (s ∷ ss) h = (record { coefficients = λ k. sym (h.0.coefficients k); bound = sym h.0.bound }, alike_turned rs ss h.1)

alike_joined : (rs ss ts : List Inequality) → AllZip HaveSameNumbers rs ss → AllZip HaveSameNumbers ss ts → AllZip HaveSameNumbers rs ts
alike_joined [] [] ts h g = g
alike_joined [] (s ∷ ss) ts h g = absurd h
alike_joined (r ∷ rs) [] ts h g = absurd h
alike_joined (r ∷ rs) (s ∷ ss) [] h g = absurd g
alike_joined (r ∷ rs) (s ∷ ss) (t ∷ ts) h g = (record { coefficients = λ k. h.0.coefficients k ∙ g.0.coefficients k; bound = h.0.bound ∙ g.0.bound }, alike_joined rs ss ts h.1 g.1)

record HasAlike (r : Inequality) (ss : List Inequality) (i : ℕ) : Type 0 where
  row : Inequality
  at : slice_get ss i ≡ Some row
  same : HaveSameNumbers r row

alike_at : (rs ss : List Inequality) (i : ℕ) (r : Inequality) → AllZip HaveSameNumbers rs ss → slice_get rs i ≡ Some r → HasAlike r ss i
alike_at [] ss i r h e = absurd (let never : None ≡ Some r = e in cc)
alike_at (x ∷ rs) [] i r h e = absurd h
alike_at (x ∷ rs) (s ∷ ss) zero r h e = (let is : x ≡ r = cc in record { row = s; at = refl; same = subst (λ y. HaveSameNumbers y s) is h.0 })
alike_at (x ∷ rs) (s ∷ ss) (suc i) r h e = (let rest = alike_at rs ss i r h.1 e in record { row = rest.row; at = rest.at; same = rest.same })

-- ---- rows with a given number of coefficients

same_padded : (width : ℕ) (r s : Inequality) → HaveSameNumbers r s → padded width r ≡ padded width s
same_padded width r s h = λ i. record { coefficients = map (λ k. h.coefficients k i) (range_with_len 0 width); bound = h.bound i }

padded_length : (width : ℕ) (row : Inequality) → length (padded width row).coefficients ≡ width
padded_length width row = length-map-range_with_len (λ k. coefficient k row) 0 width

alike_padded : (width : ℕ) (row : Inequality) → IsWithin width row → HaveSameNumbers row (padded width row)
alike_padded width row h = record {
  coefficients = λ k. elim (cases_lt k width) [
    | inl l ↦ sym (get_or-map-range_with_len (λ n. coefficient n row) 0 width k k (pos 0) l (omega arith))
    | inr l ↦ h.none_past k l ∙ sym (get_or_past (padded width row).coefficients k (pos 0) (let long = padded_length width row in omega (arith, l, long)))
  ];
  bound = refl;
}

alike_all_padded : (width : ℕ) (rows : List Inequality) → All (IsWithin width) rows → AllZip HaveSameNumbers rows (map (padded width) rows)
alike_all_padded width [] h = tt
alike_all_padded width (row ∷ rows) h = (alike_padded width row (h 0 row (omega arith)), alike_all_padded width rows (λ k d l. h (suc k) d (omega (arith, l))))

each_padded : (width : ℕ) (rows : List Inequality) → IsWithinWidth width (map (padded width) rows)
each_padded width rows = All-map (λ (row : Inequality). length row.coefficients ≤ width) (padded width) rows (λ k d l. let long = padded_length width (get_or rows k d) in omega (arith, long))

-- ---- the greatest number of coefficients

width_of_few : (most : ℕ) (rows : List Inequality) → IsWithinWidth most rows → width_of rows ≤ most
width_of_few most [] h = omega arith
width_of_few most (row ∷ rows) h =
    let here : length row.coefficients ≤ most = h 0 row (omega arith) in
    let rest = width_of_few most rows (λ k d l. h (suc k) d (omega (arith, l))) in
    omega (arith, here, rest)

within_width : (rows : List Inequality) → IsWithinWidth (width_of rows) rows
within_width [] = All-nil (λ (row : Inequality). length row.coefficients ≤ 0)
within_width (row ∷ rows) =
    let width = max (length row.coefficients) (width_of rows) in
    let here : length row.coefficients ≤ width = omega arith in
    let rest : width_of rows ≤ width = omega arith in
    All-cons (λ (r : Inequality). length r.coefficients ≤ width) row rows here (λ k d l. let b = within_width rows k d l in omega (arith, b, rest))

within_all : (rows : List Inequality) → All (IsWithin (width_of rows)) rows
within_all rows = λ k d l. record { none_past = λ n w. get_or_past (get_or rows k d).coefficients n (pos 0) (let b = within_width rows k d l in omega (arith, b, w)) }

within_alike : (width : ℕ) (rs ss : List Inequality) → AllZip HaveSameNumbers rs ss → All (IsWithin width) ss → All (IsWithin width) rs
within_alike width rs ss h w = λ k d l. record {
  none_past = λ n past. (
      let long = length_all_zip HaveSameNumbers rs ss h in
      let same = AllZip-get_or HaveSameNumbers rs ss k d d h l in
      same.coefficients n ∙ (w k d (omega (arith, l, long))).none_past n past);
}

width_padded : (width : ℕ) (row : Inequality) (rows : List Inequality) → width_of (map (padded width) (row ∷ rows)) ≡ width
width_padded width row rows =
    let long = padded_length width row in
    let rest = width_of_few width (map (padded width) rows) (each_padded width rows) in
    omega (arith, long, rest)

-- ---- eliminations of rows with the same numbers

origin_carried : (width : ℕ) (rs ss : List Inequality) → AllZip HaveSameNumbers rs ss → (unknowns : List ℕ) (before : List GivenRow) (origin : Origin) (row : Inequality) → IsOfOrigin width rs unknowns before origin row → IsOfOrigin width ss unknowns before origin row
origin_carried width rs ss alike unknowns before (Given i) row h =
    let found = alike_at rs ss i h.given alike h.at in
    record { given = found.row; at = found.at; same = h.same ∙ same_padded width h.given found.row found.same }
origin_carried width rs ss alike unknowns before (Sum of) row h = h

carried : (rs ss : List Inequality) (given : GivenElimination) (values : List Fraction) → width_of rs ≡ width_of ss → AllZip HaveSameNumbers rs ss → AreGivenValues rs given values → AreGivenValues ss given values
carried rs ss given values width alike h =
    let made = given.rows.items in
    let e = h.elimination in
    record {
      elimination = record {
        of_origins = λ k d l. subst (λ w. IsOfOrigin w ss given.unknowns.items (take k made) (get_or made k d).origin (get_or made k d).row) width (origin_carried (width_of rs) rs ss alike given.unknowns.items (take k made) (get_or made k d).origin (get_or made k d).row (e.of_origins k d l));
        different = e.different;
        begins = λ k d l. (
            let long = length_all_zip HaveSameNumbers rs ss alike in
            let b : k < length rs = omega (arith, l, long) in
            let same = same_padded (width_of rs) (get_or rs k d) (get_or ss k d) (AllZip-get_or HaveSameNumbers rs ss k d d alike b) in
            subst (λ row. Contains (rows_of made) row) (same ∙ ap (λ w. padded w (get_or ss k d)) width) (e.begins k d b));
        has_sums = e.has_sums;
        below_limit = e.below_limit;
        no_unknown_left = e.no_unknown_left;
      };
      different = h.different;
      are_values = h.are_values;
      covered = λ unknown l. h.covered unknown (omega (arith, l, width));
    }

-- the first row of an elimination is a row of the system
of_first : (width : ℕ) (rows : List Inequality) (unknowns : List ℕ) (origin : Origin) (row : Inequality) → IsOfOrigin width rows unknowns [] origin row → length row.coefficients ≡ width
of_first width rows unknowns (Given i) row h = ap (λ (r : Inequality). length r.coefficients) h.same ∙ padded_length width h.given
of_first width rows unknowns (Sum of) row h = absurd (let never : None ≡ Some h.upper = h.upper_at in cc)

first_few : (width : ℕ) (rows : List Inequality) (unknowns : List ℕ) (made : List GivenRow) → AreOfOrigins width rows unknowns made → width_of_first made ≤ width
first_few width rows unknowns [] h = omega arith
first_few width rows unknowns (one ∷ more) h = (let e = of_first width rows unknowns one.origin one.row (h 0 one (omega arith)) in omega (arith, e))

first_is : (width : ℕ) (rows : List Inequality) (unknowns : List ℕ) (made : List GivenRow) (row : Inequality) → Contains (rows_of made) row → AreOfOrigins width rows unknowns made → width_of_first made ≡ width
first_is width rows unknowns [] row among h = absurd (let w = among.1 in omega (arith, w))
first_is width rows unknowns (one ∷ more) row among h = of_first width rows unknowns one.origin one.row (h 0 one (omega arith))

-- the rows of a nonempty system have at most as many coefficients as the first row of its elimination
width_found : (row : Inequality) (rows : List Inequality) (given : GivenElimination) (values : List Fraction) → AreGivenValues (row ∷ rows) given values → width_of_first given.rows.items ≡ width_of (row ∷ rows)
width_found row rows given values h = first_is (width_of (row ∷ rows)) (row ∷ rows) given.unknowns.items given.rows.items (padded (width_of (row ∷ rows)) row) (h.elimination.begins 0 row (omega arith)) h.elimination.of_origins

-- ---- whether values are chosen

module _ (most : ℕ) (given : GivenElimination) (values : List Fraction) where
  abbrev width : ℕ
  width = width_of_first given.rows.items

  pub too_wide : (rows : List Inequality) → most < width → AreChosenFor most rows given values → ⊥
  too_wide rows l h =
      let few = width_of_few most h.others h.few in
      let first = first_few (width_of h.others) h.others given.unknowns.items given.rows.items h.chosen.elimination.of_origins in
      omega (arith, l, few, first)

  within_first : (rows others : List Inequality) → AllZip HaveSameNumbers rows others → AreGivenValues others given values → All (IsWithin width) rows
  within_first [] others alike h = All-nil (IsWithin width)
  within_first (row ∷ rows) [] alike h = absurd alike
  within_first (row ∷ rows) (other ∷ others) alike h =
      within_alike width (row ∷ rows) (other ∷ others) alike (subst (λ w. All (IsWithin w) (other ∷ others)) (sym (width_found other others given values h)) (within_all (other ∷ others)))

  pub none_padded : (rows : List Inequality) → (All (IsWithin width) rows → ⊥) → AreChosenFor most rows given values → ⊥
  none_padded rows fails h = fails (within_first rows h.others h.alike h.chosen)

  same_width : (rows others : List Inequality) → AllZip HaveSameNumbers rows others → AreGivenValues others given values → width_of others ≡ width_of (map (padded width) rows)
  same_width [] [] alike h = refl
  same_width [] (other ∷ others) alike h = absurd alike
  same_width (row ∷ rows) [] alike h = absurd alike
  same_width (row ∷ rows) (other ∷ others) alike h = sym (width_found other others given values h) ∙ sym (width_padded width row rows)

  pub chosen_exactly : (rows made : List Inequality) → width ≤ most → ArePadded width rows made → (known : Bool) → IsTrue known ↔ AreGivenValues made given values → IsTrue known ↔ AreChosenFor most rows given values
  chosen_exactly rows made l are known h = (yes, back)
    where
      alike : AllZip HaveSameNumbers rows made
      alike = subst (λ rs. AllZip HaveSameNumbers rows rs) (sym are.are) (alike_all_padded width rows are.within)

      few : IsWithinWidth most made
      few = subst (λ rs. IsWithinWidth most rs) (sym are.are) (λ k d w. let b = each_padded width rows k d w in omega (arith, b, l))

      yes : IsTrue known → AreChosenFor most rows given values
      yes t = record { others = made; alike = alike; few = few; chosen = h.0 t }

      back : AreChosenFor most rows given values → IsTrue known
      back c = h.1 (carried c.others made given values (same_width rows c.others c.alike c.chosen ∙ ap width_of (sym are.are)) (alike_joined c.others rows made (alike_turned rows c.others c.alike) alike) c.chosen)

-- ---- rows padded one after another

module _ (width : ℕ) (rows : List Inequality) (count : ℕ) where
  padded_more : (made : List Inequality) (d : Inequality) → count < length rows → IsWithin width (get_or rows count d) → ArePadded width (take count rows) made → ArePadded width (take (count + 1) rows) (made ++ padded width (get_or rows count d) ∷ [])
  padded_more made d l one h = record {
    within = subst (All (IsWithin width)) (sym (take_more rows count d l)) (All-push (IsWithin width) (take count rows) (get_or rows count d) h.within one);
    are = ap (λ rs. rs ++ padded width (get_or rows count d) ∷ []) h.are ∙ sym (map-append (padded width) (take count rows) (get_or rows count d ∷ [])) ∙ ap (map (padded width)) (sym (take_more rows count d l));
  }

  pub padded_next : (made more : List Inequality) (item row : Inequality) → count < length rows → item ≡ get_or rows count item → IsWithin width item → row ≡ padded width item → more ≡ made ++ row ∷ [] → ArePadded width (take count rows) made → ArePadded width (take (count + 1) rows) more
  padded_next made more item row l is one row_is more_is h = subst (λ rs. ArePadded width (take (count + 1) rows) rs) (sym (more_is ∙ ap (λ r. made ++ r ∷ []) (row_is ∙ ap (padded width) is))) (padded_more made item l (subst (IsWithin width) is one) h)

-- ---- a row whose coefficients are checked one after another

pub record IsWithinTo (width seen : ℕ) (row : Inequality) : Type 0 where
  pub none : (k : ℕ) → width ≤ k → k < seen → coefficient k row ≡ pos 0
