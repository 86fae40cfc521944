-- Rows with the same numbers up to zeros at the end: substitution of values gives the same row up to these.
use Rattle.std.proofs.Common.{◌≡◌, ◌≢◌, ℕ, zero, suc, ◌+◌, ◌<◌, ◌≤◌, Bool, true, false, List, [], ◌∷◌, ◌++◌, length, take, get_or, pos, ℤ, ◌*ℤ◌, ◌-ℤ◌, ◌<ℤ◌, refl, sym, ap, ◌∙◌, subst, arith, ◌⊎◌, inl, inr}
use Rattle.std.specs.Prelude.{unsigned_abs, if◌then◌else◌, ◌==◌}
use Rattle.std.specs.Int.{IsGcd, ◌∣◌}
use Rattle.std.proofs.lemmas.List.{same_from_push, length_push, take_all, take_more, take-append-le, get_or_append_left}
use Rattle.std.proofs.lemmas.List.Elements.{All-contains, All-take, Contains-push}
use Rattle.std.proofs.lemmas.Nat.Gcd.{same_from_IsGcd}
use Rattle.linear_arith.specs.Fits.{Fits}
use Rattle.linear_arith.specs.Inequality.{Inequality, coefficient}
use Rattle.linear_arith.specs.Reduction.{DividesRow, IsGcdOfRow, IsReduced}
use Rattle.linear_arith.specs.declared.rows.Fraction.{Fraction}
use Rattle.linear_arith.proofs.ListLemmas.{below_or_past}
use Rattle.linear_arith.proofs.NumberLemmas.{divisor_of_positive}
use Rattle.linear_arith.specs.Rest.{AreWeights, DifferenceWithin, PutInWithin, IsPut, PutInLeaves, IsRest}
use Rattle.linear_arith.specs.Rest.IsRest.{none, absent, put}
use Rattle.linear_arith.specs.Substitution.{ArePositive}
use Rattle.step_checks.proofs.GcdLemmas.{divides_each, divides_row, one_row_gcd}
use Rattle.step_checks.proofs.ReducedLemmas.{mul_cancel, size_positive}

-- each unknown has the same coefficient in both, and the bounds are equal
pub record AreAlike (first second : Inequality) : Type 0 where
  pub coefficients : (unknown : ℕ) → coefficient unknown first ≡ coefficient unknown second
  pub bound : first.bound ≡ second.bound

pub alike_itself : (row : Inequality) → AreAlike row row
alike_itself row = record { coefficients = λ u. refl; bound = refl }

alike_back : (first second : Inequality) → AreAlike first second → AreAlike second first
alike_back first second a = record { coefficients = λ u. sym (a.coefficients u); bound = sym a.bound }

divides_alike : (d : ℕ) (first second : Inequality) → AreAlike first second → DividesRow d first → DividesRow d second
divides_alike d first second a h = divides_row d second (λ u. subst (λ (z : ℤ). d ∣ unsigned_abs z) (a.coefficients u) (divides_each d first h u)) (subst (λ (z : ℤ). d ∣ unsigned_abs z) a.bound h.bound)

gcd_alike : (g : ℕ) (first second : Inequality) → AreAlike first second → IsGcdOfRow first g → IsGcdOfRow second g
gcd_alike g first second a h = record { divides = divides_alike g first second a h.divides; greatest = λ d k. h.greatest d (divides_alike d second first (alike_back first second a) k) }

zero_or_positive : (n : ℕ) → (n ≡ 0) ⊎ (0 < n)
zero_or_positive zero = inl refl
zero_or_positive (suc n) = inr (omega arith)

-- rows that are alike stay alike when reduced
reduced_alike : (first second one two : Inequality) → AreAlike first second → IsReduced first one → IsReduced second two → AreAlike one two
reduced_alike first second one two a h k =
    let e : k.divisor ≡ h.divisor = one_row_gcd second k.divisor h.divisor k.is_gcd (gcd_alike h.divisor first second a h.is_gcd) in
    elim (zero_or_positive h.divisor) [
      | inl z ↦
          let x = h.zeros z in
          let y = k.zeros (e ∙ z) in
          record { coefficients = λ u. ap (λ (r : Inequality). coefficient u r) x ∙ a.coefficients u ∙ sym (ap (λ (r : Inequality). coefficient u r) y); bound = ap (λ (r : Inequality). r.bound) x ∙ a.bound ∙ sym (ap (λ (r : Inequality). r.bound) y) }
      | inr p ↦
          let s = h.quotient p in
          let t = k.quotient (subst (λ (n : ℕ). 0 < n) (sym e) p) in
          let q = size_positive h.divisor p in
          record {
            coefficients = λ u. mul_cancel (pos h.divisor) _ _ q (s.coefficients u ∙ a.coefficients u ∙ sym (t.coefficients u) ∙ ap (λ (n : ℕ). pos n *ℤ coefficient u two) e);
            bound = mul_cancel (pos h.divisor) _ _ q (s.bound ∙ a.bound ∙ sym t.bound ∙ ap (λ (n : ℕ). pos n *ℤ two.bound) e);
          }
    ]

-- the numbers for the substitution of a value are the same
record AreSame (f w g v : ℤ) : Type 0 where
  factor : f ≡ g
  weight : w ≡ v

one_weights : (first second : Inequality) (value : Fraction) (f w g v : ℤ) → pos 0 <ℤ value.denominator → AreAlike first second → AreWeights first value f w → AreWeights second value g v → AreSame f w g v
one_weights first second value f w g v p a h k =
    let u = value.unknown in
    let moved : IsGcd (unsigned_abs (coefficient u second)) (unsigned_abs value.denominator) h.divisor = subst (λ (z : ℤ). IsGcd (unsigned_abs z) (unsigned_abs value.denominator) h.divisor) (a.coefficients u) h.is_gcd in
    let e : k.divisor ≡ h.divisor = same_from_IsGcd (unsigned_abs (coefficient u second)) (unsigned_abs value.denominator) k.divisor h.divisor k.is_gcd moved in
    let q = size_positive h.divisor (divisor_of_positive h.divisor (unsigned_abs value.denominator) value.denominator refl p h.is_gcd.1) in
    record {
      factor = mul_cancel (pos h.divisor) f g q (h.is_factor ∙ sym k.is_factor ∙ ap (λ (n : ℕ). pos n *ℤ g) e);
      weight = mul_cancel (pos h.divisor) w v q (h.is_weight ∙ a.coefficients u ∙ sym k.is_weight ∙ ap (λ (n : ℕ). pos n *ℤ v) e);
    }

choice_same : (t : Bool) (f g x y : ℤ) → f ≡ g → x ≡ y → (if t then pos 0 else (f *ℤ x)) ≡ (if t then pos 0 else (g *ℤ y))
choice_same true f g x y e h = refl
choice_same false f g x y e h = ap (λ (z : ℤ). z *ℤ x) e ∙ ap (λ (z : ℤ). g *ℤ z) h

difference_same : (f w g v x y n : ℤ) → f ≡ g → w ≡ v → x ≡ y → (f *ℤ x) -ℤ (w *ℤ n) ≡ (g *ℤ y) -ℤ (v *ℤ n)
difference_same f w g v x y n e h k = ap (λ (z : ℤ). (z *ℤ x) -ℤ (w *ℤ n)) e ∙ ap (λ (z : ℤ). (g *ℤ z) -ℤ (w *ℤ n)) k ∙ ap (λ (z : ℤ). (g *ℤ y) -ℤ (z *ℤ n)) h

-- a value substituted in rows that are alike
put_alike : (first second one two : Inequality) (value : Fraction) → pos 0 <ℤ value.denominator → AreAlike first second → IsPut first value one → IsPut second value two → AreAlike one two
put_alike first second one two value p a h k =
    let s = one_weights first second value h.factor h.weight k.factor k.weight p a h.are_weights k.are_weights in
    reduced_alike h.sum k.sum one two (record {
      coefficients = λ u. h.is_sum.coefficients u ∙ choice_same (u == value.unknown) h.factor k.factor _ _ s.factor (a.coefficients u) ∙ sym (k.is_sum.coefficients u);
      bound = h.is_sum.bound ∙ difference_same h.factor h.weight k.factor k.weight first.bound second.bound value.numerator s.factor s.weight a.bound ∙ sym k.is_sum.bound;
    }) h.is_reduced k.is_reduced

-- the substitution does not overflow 128 bits in only one of them
within_alike : (first second : Inequality) (value : Fraction) (f w g v : ℤ) → AreAlike first second → AreSame f w g v → PutInWithin f w first value → PutInWithin g v second value
within_alike first second value f w g v a s h = record {
  coefficients = λ u n. subst (λ (z : ℤ). Fits (g *ℤ z)) (a.coefficients u) (subst (λ (z : ℤ). Fits (z *ℤ coefficient u first)) s.factor (h.coefficients u n));
  bound = subst (λ (z : ℤ). DifferenceWithin g z v value.numerator) a.bound (subst (λ (z : ℤ). DifferenceWithin g first.bound z value.numerator) s.weight (subst (λ (z : ℤ). DifferenceWithin z first.bound w value.numerator) s.factor h.bound));
}

not_put : (first second made : Inequality) (value : Fraction) → pos 0 <ℤ value.denominator → AreAlike first second → IsPut first value made → PutInLeaves second value → ⊥
not_put first second made value p a h k =
    k.leaves (within_alike first second value h.factor h.weight k.factor k.weight a (one_weights first second value h.factor h.weight k.factor k.weight p a h.are_weights k.are_weights) h.within)

-- how the rest was made with the last value
pub data IsLast (row : Inequality) (values : List Fraction) (value : Fraction) (made : Inequality) : Type 0 where
  skipped : IsRest row values made → coefficient value.unknown made ≡ pos 0 → IsLast row values value made
  filled : (left : Inequality) → IsRest row values left → coefficient value.unknown left ≢ pos 0 → IsPut left value made → IsLast row values value made

not_empty : (values : List Fraction) (value : Fraction) → [] ≡ values ++ value ∷ [] → ⊥
not_empty values value e = let l = ap length e ∙ length_push values value in absurd (omega (arith, l))

last_in : (row made : Inequality) (all values : List Fraction) (value : Fraction) → IsRest row all made → all ≡ values ++ value ∷ [] → IsLast row values value made
last_in row _ _ values value none e = absurd (not_empty values value e)
last_in row _ _ values value (absent vs v left h z) e =
    let s = same_from_push vs values v value e in
    skipped (subst (λ (xs : List Fraction). IsRest row xs left) s.0 h) (subst (λ (x : Fraction). coefficient x.unknown left ≡ pos 0) s.1 z)
last_in row _ _ values value (put vs v left made h n i) e =
    let s = same_from_push vs values v value e in
    filled left (subst (λ (xs : List Fraction). IsRest row xs left) s.0 h) (subst (λ (x : Fraction). coefficient x.unknown left ≢ pos 0) s.1 n) (subst (λ (x : Fraction). IsPut left x made) s.1 i)

pub last_of : (row made : Inequality) (values : List Fraction) (value : Fraction) → IsRest row (values ++ value ∷ []) made → IsLast row values value made
last_of row made values value h = last_in row made (values ++ value ∷ []) values value h refl

none_of : (row made : Inequality) (all : List Fraction) → IsRest row all made → all ≡ [] → AreAlike row made
none_of row _ _ none e = alike_itself row
none_of row _ _ (absent vs v left h z) e = absurd (not_empty vs v (sym e))
none_of row _ _ (put vs v left made h n i) e = absurd (not_empty vs v (sym e))

pub firsts : (values : List Fraction) (value : Fraction) → ArePositive (values ++ value ∷ []) → ArePositive values
firsts values value p k d l =
    let len = length_push values value in
    subst (λ (v : Fraction). pos 0 <ℤ v.denominator) (get_or_append_left values (value ∷ []) d k l) (p k d (omega (arith, l, len)))

last : (values : List Fraction) (value : Fraction) → ArePositive (values ++ value ∷ []) → pos 0 <ℤ value.denominator
last values value p = All-contains (λ (v : Fraction). pos 0 <ℤ v.denominator) (values ++ value ∷ []) value p (Contains-push values value)

-- the rest of a row is determined by the values
pub one_rest : (row first second : Inequality) (values : List Fraction) → ArePositive values → IsRest row values first → IsRest row values second → AreAlike first second
one_rest row _ second _ p none k = none_of row second [] k refl
one_rest row _ second _ p (absent vs v left h z) k = elim (last_of row second vs v k) [
  | skipped r y ↦ one_rest row left second vs (firsts vs v p) h r
  | filled other r n i ↦ absurd (n (sym ((one_rest row left other vs (firsts vs v p) h r).coefficients v.unknown) ∙ z))
]
one_rest row _ second _ p (put vs v left made h n i) k = elim (last_of row second vs v k) [
  | skipped r y ↦ absurd (n ((one_rest row left second vs (firsts vs v p) h r).coefficients v.unknown ∙ y))
  | filled other r m j ↦ put_alike left other made second v (last vs v p) (one_rest row left other vs (firsts vs v p) h r) i j
]

-- values that leave a rest also leave one in between
pub record HasRest (row : Inequality) (values : List Fraction) : Type 0 where
  pub rest : Inequality
  pub is_rest : IsRest row values rest

on_the_way : (row made : Inequality) (values : List Fraction) (value : Fraction) (k : ℕ) → k ≤ length (values ++ value ∷ []) → IsRest row (values ++ value ∷ []) made → (k ≤ length values → HasRest row (take k values)) → HasRest row (take k (values ++ value ∷ []))
on_the_way row made values value k l h earlier = elim (below_or_past (length values) k) [
  | inl past ↦ record { rest = made; is_rest = (let len = length_push values value in subst (λ (vs : List Fraction). IsRest row vs made) (sym (take_all k (values ++ value ∷ []) (omega (arith, past, len)))) h) }
  | inr within ↦ subst (λ (vs : List Fraction). HasRest row vs) (sym (take-append-le k values (value ∷ []) within)) (earlier within)
]

rest_until : (row made : Inequality) (values : List Fraction) (k : ℕ) → k ≤ length values → IsRest row values made → HasRest row (take k values)
rest_until row _ _ zero l none = record { rest = row; is_rest = none }
rest_until row _ _ (suc k) l none = absurd (omega (arith, l))
rest_until row _ _ k l (absent vs v left h z) = on_the_way row left vs v k l (absent vs v left h z) (λ m. rest_until row left vs k m h)
rest_until row _ _ k l (put vs v left made h n i) = on_the_way row made vs v k l (put vs v left made h n i) (λ m. rest_until row left vs k m h)

-- if the substitution of a value overflows 128 bits, there is no rest
pub no_rest : (row left made : Inequality) (values : List Fraction) (i : ℕ) (d : Fraction) → ArePositive values → i < length values → IsRest row (take i values) left → coefficient (get_or values i d).unknown left ≢ pos 0 → PutInLeaves left (get_or values i d) → IsRest row values made → ⊥
no_rest row left made values i d p l h n leaves k =
    let value = get_or values i d in
    let at = rest_until row made values (i + 1) (omega (arith, l)) k in
    let next : IsRest row (take i values ++ value ∷ []) at.rest = subst (λ (vs : List Fraction). IsRest row vs at.rest) (take_more values i d l) at.is_rest in
    let before = All-take (λ (v : Fraction). pos 0 <ℤ v.denominator) i values p in
    elim (last_of row at.rest (take i values) value next) [
      | skipped r z ↦ n ((one_rest row left at.rest (take i values) before h r).coefficients value.unknown ∙ z)
      | filled other r m j ↦ not_put other left at.rest value (p i d l) (one_rest row other left (take i values) before r h) j leaves
    ]
