-- Sums of two rows that cancel an unknown, and eliminations that have all of them.
use Rattle.std.proofs.Common.{◌≡◌, ℕ, zero, suc, ◌<◌, ◌≤◌, ◌*◌, List, [], ◌∷◌, ◌++◌, length, get_or, pos, ℤ, ◌+ℤ◌, ◌*ℤ◌, ◌<ℤ◌, refl, sym, ap, ◌∙◌, subst, arith, ◌⊎◌, inl, inr}
use Rattle.std.specs.Prelude.{Contains}
use Rattle.std.proofs.Math.IntN.{*ℤ-zero}
use Rattle.std.proofs.lemmas.Int.{ints}
use Rattle.std.proofs.lemmas.List.FromFn.{get_or-map-range_with_len, length-map-range_with_len}
use Rattle.std.proofs.lemmas.List.Elements.{All-push, All-contains, Contains-get_or, Contains-push, Contains-append_left}
use Rattle.linear_arith.specs.Inequality.{Inequality, coefficient}
use Rattle.linear_arith.specs.Combination.{number, weighted_sum, bound_of, combination}
use Rattle.linear_arith.specs.Reduction.{IsReduced, IsTimes}
use Rattle.linear_arith.specs.Elimination.{Cancels, IsMix, as_row}
use Rattle.linear_arith.specs.Closure.{IsWithout, IsSumOf, HasSum, HasSums, IsClosed}
use Rattle.linear_arith.specs.Closure.IsClosed.{none, next}
use Rattle.base.proofs.WholeNumbers.{mul_assoc, mul_add, add_mul, one_mul, zero_of_multiple}
use Rattle.linear_arith.proofs.ListLemmas.{get_or-past, below_or_past}
use Rattle.linear_arith.proofs.ProductLemmas.{positive_product}

pub size_positive : (n : ℕ) → 0 < n → pos 0 <ℤ pos n
size_positive n h = omega (arith, ints, h)

zero_or_positive : (n : ℕ) → (n ≡ 0) ⊎ (0 < n)
zero_or_positive zero = inl refl
zero_or_positive (suc n) = inr (omega arith)

-- a constraint that is a positive multiple of another
pub record IsMultiple (other row : Inequality) : Type 0 where
  pub scale : ℕ
  pub positive : 0 < scale
  pub is_scaled : IsTimes scale other row

times_one : (row : Inequality) → IsTimes 1 row row
times_one row = record { same_unknowns = refl; coefficients = λ u. one_mul (coefficient u row); bound = one_mul row.bound }

pub multiple_of_itself : (row : Inequality) → IsMultiple row row
multiple_of_itself row = record { scale = 1; positive = omega arith; is_scaled = times_one row }

pub multiple_of_reduced : (row reduced : Inequality) → IsReduced row reduced → IsMultiple reduced row
multiple_of_reduced row reduced h = elim (zero_or_positive h.divisor) [
  | inl z ↦ subst (λ (r : Inequality). IsMultiple reduced r) (h.zeros z) (multiple_of_itself reduced)
  | inr p ↦ record { scale = h.divisor; positive = p; is_scaled = h.quotient p }
]

mix_step : (x y a b p s t m r : ℤ) → m ≡ (x *ℤ a) +ℤ (y *ℤ b) → r ≡ (x *ℤ s) +ℤ (y *ℤ t) → (m *ℤ p) +ℤ r ≡ (x *ℤ ((a *ℤ p) +ℤ s)) +ℤ (y *ℤ ((b *ℤ p) +ℤ t))
mix_step x y a b p s t m r e f =
    let d = ap (λ (z : ℤ). z *ℤ p) e ∙ add_mul (x *ℤ a) (y *ℤ b) p in
    let k = mul_assoc x a p in
    let l = mul_assoc y b p in
    let u = mul_add x (a *ℤ p) s in
    let v = mul_add y (b *ℤ p) t in
    rw (d, f, k, l, u, v) (regroup (x *ℤ (a *ℤ p)) (y *ℤ (b *ℤ p)) (x *ℤ s) (y *ℤ t))
  where
    regroup : (a b c d : ℤ) → (a +ℤ b) +ℤ (c +ℤ d) ≡ (a +ℤ c) +ℤ (b +ℤ d)
    regroup a b c d = omega (arith, ints)

pub no_mix : (x y : ℤ) → pos 0 ≡ (x *ℤ pos 0) +ℤ (y *ℤ pos 0)
no_mix x y = rw (*ℤ-zero x, *ℤ-zero y) refl

-- sums of multipliers give sums of weighted sums
weighted_sum-mix : (part : Inequality → ℤ) (x y : ℤ) (first second mixed : List ℤ) (rows : List Inequality) → length first ≡ length mixed → length second ≡ length mixed → ((k : ℕ) → k < length mixed → number k mixed ≡ (x *ℤ number k first) +ℤ (y *ℤ number k second)) → weighted_sum part mixed rows ≡ (x *ℤ weighted_sum part first rows) +ℤ (y *ℤ weighted_sum part second rows)
weighted_sum-mix part x y [] [] [] rows e f h = no_mix x y
weighted_sum-mix part x y (a ∷ xs) second [] rows e f h = absurd (omega (arith, e))
weighted_sum-mix part x y [] (b ∷ ys) [] rows e f h = absurd (omega (arith, f))
weighted_sum-mix part x y [] second (m ∷ ms) rows e f h = absurd (omega (arith, e))
weighted_sum-mix part x y (a ∷ xs) [] (m ∷ ms) rows e f h = absurd (omega (arith, f))
weighted_sum-mix part x y (a ∷ xs) (b ∷ ys) (m ∷ ms) [] e f h = no_mix x y
weighted_sum-mix part x y (a ∷ xs) (b ∷ ys) (m ∷ ms) (row ∷ rows) e f h =
    let here : m ≡ (x *ℤ a) +ℤ (y *ℤ b) = h 0 (omega arith) in
    let rest = weighted_sum-mix part x y xs ys ms rows (omega (arith, e)) (omega (arith, f)) (λ k l. h (suc k) (omega (arith, l))) in
    mix_step x y a b (part row) (weighted_sum part xs rows) (weighted_sum part ys rows) m (weighted_sum part ms rows) here rest

-- multiples of multipliers give multiples of weighted sums
weighted_sum-times : (part : Inequality → ℤ) (g : ℤ) (ms mixed : List ℤ) (rows : List Inequality) → length ms ≡ length mixed → ((k : ℕ) → g *ℤ number k ms ≡ number k mixed) → g *ℤ weighted_sum part ms rows ≡ weighted_sum part mixed rows
weighted_sum-times part g [] [] rows e h = *ℤ-zero g
weighted_sum-times part g [] (n ∷ ns) rows e h = absurd (omega (arith, e))
weighted_sum-times part g (m ∷ ms) [] rows e h = absurd (omega (arith, e))
weighted_sum-times part g (m ∷ ms) (n ∷ ns) [] e h = *ℤ-zero g
weighted_sum-times part g (m ∷ ms) (n ∷ ns) (row ∷ rows) e h =
    let here : g *ℤ m ≡ n = h 0 in
    let rest = weighted_sum-times part g ms ns rows (omega (arith, e)) (λ k. h (suc k)) in
    mul_add g (m *ℤ part row) (weighted_sum part ms rows) ∙ rw (← mul_assoc g m (part row), here, rest) refl

-- g times a number is the sum of x times one and y times another
abbrev SumsUp : ℕ → ℕ → ℕ → ℤ → ℤ → ℤ → Type 0
SumsUp g x y t s r = pos g *ℤ t ≡ (pos x *ℤ s) +ℤ (pos y *ℤ r)

-- three constraints with such numbers
pub record AreSummed (g x y : ℕ) (first second row : Inequality) : Type 0 where
  pub coefficients : (u : ℕ) → SumsUp g x y (coefficient u row) (coefficient u first) (coefficient u second)
  pub bound : SumsUp g x y row.bound first.bound second.bound

combined_part : (width x y g : ℕ) (first second mixed ms : List ℤ) (rows : List Inequality) (part : Inequality → ℤ) → IsMix x y first second mixed → length second ≡ length first → IsTimes g (as_row ms) (as_row mixed) → SumsUp g x y (weighted_sum part ms rows) (weighted_sum part first rows) (weighted_sum part second rows)
combined_part width x y g first second mixed ms rows part mix same times =
    weighted_sum-times part (pos g) ms mixed rows times.same_unknowns times.coefficients ∙ weighted_sum-mix part (pos x) (pos y) first second mixed rows (sym mix.one_each) (same ∙ sym mix.one_each) (λ k l. mix.numbers k (omega (arith, mix.one_each, l)))

-- combinations by sums of multipliers
pub combinations_summed : (width x y g : ℕ) (first second mixed ms : List ℤ) (rows : List Inequality) → IsMix x y first second mixed → length second ≡ length first → IsTimes g (as_row ms) (as_row mixed) → AreSummed g x y (combination width first rows) (combination width second rows) (combination width ms rows)
combinations_summed width x y g first second mixed ms rows mix same times = record {
  coefficients = λ u. elim (below_or_past u width) [
    | inl l ↦ rw (within ms u l, within first u l, within second u l) (combined_part width x y g first second mixed ms rows (coefficient u) mix same times)
    | inr l ↦ rw (past ms u l, past first u l, past second u l) (*ℤ-zero (pos g) ∙ no_mix (pos x) (pos y))
  ];
  bound = combined_part width x y g first second mixed ms rows bound_of mix same times;
}
  where
    within : (ns : List ℤ) (u : ℕ) → u < width → coefficient u (combination width ns rows) ≡ weighted_sum (coefficient u) ns rows
    within ns u l = get_or-map-range_with_len (λ v. weighted_sum (coefficient v) ns rows) 0 width u u (pos 0) l (omega arith)

    past : (ns : List ℤ) (u : ℕ) → width ≤ u → coefficient u (combination width ns rows) ≡ pos 0
    past ns u l =
        let len = length-map-range_with_len (λ v. weighted_sum (coefficient v) ns rows) 0 width in
        get_or-past (combination width ns rows).coefficients u (pos 0) (omega (arith, len, l))

-- constraints whose numbers are sums one by one
pub rows_summed : (x y : ℕ) (first second row : Inequality) → length second.coefficients ≡ length first.coefficients → IsMix x y first.coefficients second.coefficients row.coefficients → row.bound ≡ (pos x *ℤ first.bound) +ℤ (pos y *ℤ second.bound) → AreSummed 1 x y first second row
rows_summed x y first second row same mix bound = record {
  coefficients = λ u. one_mul (coefficient u row) ∙ elim (below_or_past u (length first.coefficients)) as (λ _. coefficient u row ≡ (pos x *ℤ coefficient u first) +ℤ (pos y *ℤ coefficient u second)) [
    | inl l ↦ mix.numbers u l
    | inr l ↦ rw (get_or-past row.coefficients u (pos 0) (omega (arith, mix.one_each, l)), get_or-past first.coefficients u (pos 0) l, get_or-past second.coefficients u (pos 0) (omega (arith, same, l))) (no_mix (pos x) (pos y))
  ];
  bound = one_mul row.bound ∙ bound;
}

scaled_sum : (g d x e y f : ℕ) (c a b t s r : ℤ) → pos d *ℤ c ≡ t → pos e *ℤ a ≡ s → pos f *ℤ b ≡ r → SumsUp g x y t s r → SumsUp (g * d) (x * e) (y * f) c a b
scaled_sum g d x e y f c a b t s r i j k h =
    let l : pos (g * d) *ℤ c ≡ pos g *ℤ t = mul_assoc (pos g) (pos d) c ∙ ap (λ (z : ℤ). pos g *ℤ z) i in
    let m : pos (x * e) *ℤ a ≡ pos x *ℤ s = mul_assoc (pos x) (pos e) a ∙ ap (λ (z : ℤ). pos x *ℤ z) j in
    let n : pos (y * f) *ℤ b ≡ pos y *ℤ r = mul_assoc (pos y) (pos f) b ∙ ap (λ (z : ℤ). pos y *ℤ z) k in
    l ∙ h ∙ rw (m, n) refl

-- a constraint is the sum of two others, where sums of positive multiples of the three cancel the unknown
pub sum_of_multiples : (unknown g x y : ℕ) (upper lower row first second total : Inequality) → 0 < g → Cancels (coefficient unknown first) (coefficient unknown second) x y → IsMultiple row total → IsMultiple upper first → IsMultiple lower second → AreSummed g x y first second total → IsSumOf unknown upper lower row
sum_of_multiples unknown g x y upper lower row first second total p cancels d e f h = record {
  factor = g * d.scale;
  first = x * e.scale;
  second = y * f.scale;
  factor_positive = positive_product g d.scale p d.positive;
  first_positive = positive_product x e.scale cancels.first_positive e.positive;
  second_positive = positive_product y f.scale cancels.second_positive f.positive;
  coefficients = λ u. scaled_sum g d.scale x e.scale y f.scale _ _ _ _ _ _ (d.is_scaled.coefficients u) (e.is_scaled.coefficients u) (f.is_scaled.coefficients u) (h.coefficients u);
  bound = scaled_sum g d.scale x e.scale y f.scale _ _ _ _ _ _ d.is_scaled.bound e.is_scaled.bound f.is_scaled.bound h.bound;
  cancels =
      let none = zero_of_multiple (pos g) (coefficient unknown total) (size_positive g p) (h.coefficients unknown ∙ cancels.cancels) in
      zero_of_multiple (pos d.scale) (coefficient unknown row) (size_positive d.scale d.positive) (d.is_scaled.coefficients unknown ∙ none);
}

pub without_last : (unknowns : List ℕ) (unknown : ℕ) (row : Inequality) → IsWithout (unknowns ++ unknown ∷ []) row → coefficient unknown row ≡ pos 0
without_last unknowns unknown row h = All-contains (λ (u : ℕ). coefficient u row ≡ pos 0) (unknowns ++ unknown ∷ []) unknown h (Contains-push unknowns unknown)

pub without_others : (unknowns : List ℕ) (unknown : ℕ) (row : Inequality) → IsWithout (unknowns ++ unknown ∷ []) row → IsWithout unknowns row
without_others unknowns unknown row h k d l = All-contains (λ (u : ℕ). coefficient u row ≡ pos 0) (unknowns ++ unknown ∷ []) (get_or unknowns k d) h (Contains-append_left unknowns (unknown ∷ []) (get_or unknowns k d) (Contains-get_or unknowns k d l))

pub without_one_more : (unknowns : List ℕ) (unknown : ℕ) (row : Inequality) → IsWithout unknowns row → coefficient unknown row ≡ pos 0 → IsWithout (unknowns ++ unknown ∷ []) row
without_one_more unknowns unknown row h z = All-push (λ (u : ℕ). coefficient u row ≡ pos 0) unknowns unknown h z

-- the sum of two constraints has no unknown that neither of them has
pub without_in_sum : (unknowns : List ℕ) (unknown : ℕ) (upper lower row : Inequality) → IsSumOf unknown upper lower row → IsWithout unknowns upper → IsWithout unknowns lower → IsWithout (unknowns ++ unknown ∷ []) row
without_in_sum unknowns unknown upper lower row s a b =
    without_one_more unknowns unknown row (λ k d l. zero_of_multiple (pos s.factor) (coefficient (get_or unknowns k d) row) (size_positive s.factor s.factor_positive) (s.coefficients (get_or unknowns k d) ∙ rw (a k d l, b k d l) (sym (no_mix (pos s.first) (pos s.second))))) s.cancels

-- a sum is still found when constraints are added
pub sum_stays : (old new : List Inequality) (unknown : ℕ) (upper lower : Inequality) → ((row : Inequality) → Contains old row → Contains new row) → HasSum old unknown upper lower → HasSum new unknown upper lower
sum_stays old new unknown upper lower keep s = record { row = s.row; is_found = keep s.row s.is_found; is_sum = s.is_sum }

pub not_zero_above : (z : ℤ) → z ≡ pos 0 → pos 0 <ℤ z → ⊥
not_zero_above z e h = omega (arith, ints, e, h)

pub not_zero_below : (z : ℤ) → z ≡ pos 0 → z <ℤ pos 0 → ⊥
not_zero_below z e h = omega (arith, ints, e, h)

pub not_both : (z : ℤ) → pos 0 <ℤ z → z <ℤ pos 0 → ⊥
not_both z h k = omega (arith, ints, h, k)

-- all sums for an unknown are still found when constraints without it are added
pub sums_stay : (old new : List Inequality) (unknowns : List ℕ) (unknown : ℕ) → ((row : Inequality) → Contains old row → Contains new row) → ((row : Inequality) → Contains new row → Contains old row ⊎ (coefficient unknown row ≡ pos 0)) → HasSums old unknowns unknown → HasSums new unknowns unknown
sums_stay old new unknowns unknown keep fresh s = record {
  sums = λ upper lower a b wa wb above below. elim (fresh upper a) [
    | inr z ↦ absurd (not_zero_above (coefficient unknown upper) z above)
    | inl oa ↦ elim (fresh lower b) [
      | inr z ↦ absurd (not_zero_below (coefficient unknown lower) z below)
      | inl ob ↦ sum_stays old new unknown upper lower keep (s.sums upper lower oa ob wa wb above below)
    ]
  ];
}

pub closed_stays : (old new : List Inequality) (keep : (row : Inequality) → Contains old row → Contains new row) (unknowns : List ℕ) → ((row : Inequality) → Contains new row → Contains old row ⊎ IsWithout unknowns row) → IsClosed old unknowns → IsClosed new unknowns
closed_stays old new keep _ fresh none = none
closed_stays old new keep _ fresh (next us u c s) =
    next us u
    (closed_stays old new keep us (λ row h. elim (fresh row h) [ inl o ↦ inl o | inr w ↦ inr (without_others us u row w) ]) c)
    (sums_stay old new us u keep (λ row h. elim (fresh row h) [ inl o ↦ inl o | inr w ↦ inr (without_last us u row w) ]) s)
