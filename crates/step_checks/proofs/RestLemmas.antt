-- Values substituted in the rest of a row.
use Rattle.std.proofs.Common.{◌≡◌, inl, inr, ℕ, ◌*◌, ◌+◌, ◌<◌, ◌≤◌, Bool, true, false, IsTrue, ℤ, pos, negsuc, neg_ℤ, ◌-ℤ◌, ◌*ℤ◌, ◌<ℤ◌, ◌≤ℤ◌, List, length, get_or, Result, Ok, Err, IfOk, refl, sym, ap, ◌∙◌, subst, arith}
use Rattle.std.specs.Prelude.{unsigned_abs, if◌then◌else◌, ◌==◌, All}
use Rattle.std.proofs.Math.IntN.{*ℤ-zero, zero-*ℤ}
use Rattle.std.proofs.lemmas.Int.{ints}
use Rattle.std.proofs.lemmas.Nat.{mul-lt}
use Rattle.std.proofs.lemmas.Bool.{cases_lt, eqb-true, eqb-false}
use Rattle.std.proofs.lemmas.List.{get_or-set_same, get_or-set_other, get_or_past, get_or_default}
use Rattle.base.proofs.WholeNumbers.{mul_assoc, mul_sub, mul_neg, mul_swap, mul_positive, mul_not_negative, sign_of_multiple, zero_of_multiple, one_mul}
use Rattle.linear_arith.specs.Inequality.{Inequality}
use Rattle.linear_arith.specs.declared.rows.Fraction.{Fraction}
use Rattle.linear_arith.specs.Substitution.{LinearForm, form_of, put_in, IsTrueForm}
use Rattle.step_checks.specs.declared.met_rows.rest.Rest.{Rest}
use Rattle.step_checks.specs.Rests.{IsRestOf, IsWithout}

pub ok_map : {V E : Type 0} {P Q : V → Type 0} (r : Result V E) → ((v : V) → P v → Q v) → IfOk r P → IfOk r Q
ok_map (Ok v) f h = f v h
ok_map (Err e) f h = h

pub false_not : {P : Type 0} → IsTrue false → P
false_not t = absurd (cc)

-- ---- numbers

abbrev pub Vanishes : List ℤ → Type 0
Vanishes ns = All (λ (n : ℤ). n ≡ pos 0) ns

pub positive_is : (q : ℤ) → pos 0 <ℤ q → q ≡ pos (unsigned_abs q)
positive_is (pos n) h = refl
positive_is (negsuc n) h = absurd (omega (arith, ints, h))

size_positive : (q : ℤ) → pos 0 <ℤ q → 0 < unsigned_abs q
size_positive (pos n) h = omega (arith, ints, h)
size_positive (negsuc n) h = absurd (omega (arith, ints, h))

-- if the product of coefficient and numerator is negative, the first part grows
pub first_grows : (a b s m n : ℕ) (q c p : ℤ) → q ≡ pos n → c *ℤ p ≡ neg_ℤ (pos m) → pos (a * n + s * m) -ℤ pos (b * n) ≡ (q *ℤ (pos a -ℤ pos b)) -ℤ ((pos s *ℤ c) *ℤ p)
first_grows a b s m n q c p is product =
    let left : q *ℤ (pos a -ℤ pos b) ≡ pos (n * a) -ℤ pos (n * b) = ap (λ (z : ℤ). z *ℤ (pos a -ℤ pos b)) is ∙ mul_sub (pos n) (pos a) (pos b) in
    let right : (pos s *ℤ c) *ℤ p ≡ neg_ℤ (pos (s * m)) = mul_assoc (pos s) c p ∙ ap (λ (z : ℤ). pos s *ℤ z) product ∙ mul_neg (pos s) (pos m) in
    rw (left, right) (omega (arith, ints))

-- otherwise the second part grows
pub second_grows : (a b s m n : ℕ) (q c p : ℤ) → q ≡ pos n → c *ℤ p ≡ pos m → pos (a * n) -ℤ pos (b * n + s * m) ≡ (q *ℤ (pos a -ℤ pos b)) -ℤ ((pos s *ℤ c) *ℤ p)
second_grows a b s m n q c p is product =
    let left : q *ℤ (pos a -ℤ pos b) ≡ pos (n * a) -ℤ pos (n * b) = ap (λ (z : ℤ). z *ℤ (pos a -ℤ pos b)) is ∙ mul_sub (pos n) (pos a) (pos b) in
    let right : (pos s *ℤ c) *ℤ p ≡ pos (s * m) = mul_assoc (pos s) c p ∙ ap (λ (z : ℤ). pos s *ℤ z) product in
    rw (left, right) (omega (arith, ints))

pub product_of_sizes : (s a b once made : ℕ) → once ≡ s * a → made ≡ once * b → made ≡ s * (a * b)
product_of_sizes s a b once made first second = let e = ap (λ (n : ℕ). n * b) first in omega (arith, second, e)

-- ---- the whole row

pub all_left : (row : Inequality) (rest : Rest) → rest.left.items ≡ row.coefficients → rest.scale ≡ 1 → row.bound ≡ pos rest.above -ℤ pos rest.below → IsRestOf (form_of row) rest
all_left row rest same one bound = record {
  factor = pos 1;
  positive = omega (arith, ints);
  scale = omega (arith, one);
  coefficients = λ u. (
      let here : get_or row.coefficients u (pos 0) ≡ get_or rest.left.items u (pos 0) = ap (λ cs. get_or cs u (pos 0)) (sym same) in
      here ∙ sym (one_mul (get_or rest.left.items u (pos 0))) ∙ ap (λ n. pos n *ℤ get_or rest.left.items u (pos 0)) (sym one) ∙ sym (one_mul (pos rest.scale *ℤ get_or rest.left.items u (pos 0))));
  bound = bound ∙ sym (one_mul (pos rest.above -ℤ pos rest.below));
}

-- ---- one value

chosen : (t : Bool) (x y z : ℤ) → (t ≡ true → x ≡ z) → (t ≡ false → y ≡ z) → (if t then x else y) ≡ z
chosen true x y z f g = f refl
chosen false x y z f g = g refl

nothing_left : (f s : ℤ) (z : ℤ) → z ≡ pos 0 → pos 0 ≡ f *ℤ (s *ℤ z)
nothing_left f s z e = sym (ap (λ (x : ℤ). f *ℤ (s *ℤ x)) e ∙ ap (λ (x : ℤ). f *ℤ x) (*ℤ-zero s) ∙ *ℤ-zero f)

module _ (form : LinearForm) (rest : Rest) (value : Fraction) (positive : pos 0 <ℤ value.denominator) (h : IsRestOf form rest) where
  abbrev q : ℤ
  q = value.denominator

  abbrev left : ℕ → ℤ
  left u = get_or rest.left.items u (pos 0)

  -- an unknown that is not left
  pub value_passed : left value.unknown ≡ pos 0 → IsRestOf (put_in form value) rest
  value_passed gone = record {
    factor = q *ℤ h.factor;
    positive = mul_positive q h.factor positive h.positive;
    scale = h.scale;
    coefficients = λ u. chosen (u == value.unknown) (pos 0) (q *ℤ form.at u) ((q *ℤ h.factor) *ℤ (pos rest.scale *ℤ left u))
        (λ e. nothing_left (q *ℤ h.factor) (pos rest.scale) (left u) (ap left (eqb-true u value.unknown e) ∙ gone))
        (λ e. ap (λ (z : ℤ). q *ℤ z) (h.coefficients u) ∙ sym (mul_assoc q h.factor (pos rest.scale *ℤ left u)));
    bound = (
        let none : form.at value.unknown ≡ pos 0 = h.coefficients value.unknown ∙ sym (nothing_left h.factor (pos rest.scale) (left value.unknown) gone) in
        let away : form.at value.unknown *ℤ value.numerator ≡ pos 0 = ap (λ (z : ℤ). z *ℤ value.numerator) none ∙ zero-*ℤ value.numerator in
        let kept : q *ℤ form.bound ≡ (q *ℤ h.factor) *ℤ (pos rest.above -ℤ pos rest.below) = ap (λ (z : ℤ). q *ℤ z) h.bound ∙ sym (mul_assoc q h.factor (pos rest.above -ℤ pos rest.below)) in
        rw (away, kept) (omega (arith, ints)));
  }

  pub value_put : (made : Rest) (c : ℤ) → value.unknown < length rest.left.items → left value.unknown ≡ c → IsWithout rest c value made → IsRestOf (put_in form value) made
  value_put made c within is w = record {
    factor = h.factor;
    positive = h.positive;
    scale = (let size = size_positive q positive in let p = mul-lt 0 0 rest.scale (unsigned_abs q) h.scale size in omega (arith, p, w.scale));
    coefficients = λ u. chosen (u == value.unknown) (pos 0) (q *ℤ form.at u) (h.factor *ℤ (pos made.scale *ℤ now u))
        (λ e. nothing_left h.factor (pos made.scale) (now u) (ap now (eqb-true u value.unknown e) ∙ ap (λ cs. get_or cs value.unknown (pos 0)) w.left ∙ get_or-set_same rest.left.items value.unknown (pos 0) (pos 0) within))
        (λ e. ap (λ (z : ℤ). q *ℤ z) (h.coefficients u) ∙ mul_swap q h.factor (pos rest.scale *ℤ left u) ∙ ap (λ (z : ℤ). h.factor *ℤ z) (sym (mul_assoc q (pos rest.scale) (left u)) ∙ ap (λ (z : ℤ). z *ℤ left u) scaled ∙ ap (λ (z : ℤ). pos made.scale *ℤ z) (sym (kept u (eqb-false u value.unknown e)))));
    bound = (
        let first : q *ℤ form.bound ≡ h.factor *ℤ (q *ℤ difference) = ap (λ (z : ℤ). q *ℤ z) h.bound ∙ mul_swap q h.factor difference in
        let here : form.at value.unknown ≡ h.factor *ℤ (pos rest.scale *ℤ c) = h.coefficients value.unknown ∙ ap (λ (z : ℤ). h.factor *ℤ (pos rest.scale *ℤ z)) is in
        let second : form.at value.unknown *ℤ value.numerator ≡ h.factor *ℤ ((pos rest.scale *ℤ c) *ℤ value.numerator) = ap (λ (z : ℤ). z *ℤ value.numerator) here ∙ mul_assoc h.factor (pos rest.scale *ℤ c) value.numerator in
        rw (first, second) (sym (mul_sub h.factor (q *ℤ difference) ((pos rest.scale *ℤ c) *ℤ value.numerator)) ∙ ap (λ (z : ℤ). h.factor *ℤ z) (sym w.bound)));
  }
    where
      now : ℕ → ℤ
      now u = get_or made.left.items u (pos 0)

      difference : ℤ
      difference = pos rest.above -ℤ pos rest.below

      scaled : q *ℤ pos rest.scale ≡ pos made.scale
      scaled = ap (λ (z : ℤ). z *ℤ pos rest.scale) (positive_is q positive) ∙ ap pos (let e = w.scale in omega (arith, e))

      kept : (u : ℕ) → (u ≡ value.unknown → ⊥) → get_or made.left.items u (pos 0) ≡ left u
      kept u other = ap (λ cs. get_or cs u (pos 0)) w.left ∙ get_or-set_other rest.left.items value.unknown u (pos 0) (pos 0) other

-- ---- whether it is true

module _ (form : LinearForm) (rest : Rest) (h : IsRestOf form rest) where
  zero_left : All (λ (n : ℤ). n ≡ pos 0) rest.left.items → (u : ℕ) → get_or rest.left.items u (pos 0) ≡ pos 0
  zero_left all u = elim (cases_lt u (length rest.left.items)) [ inl l ↦ all u (pos 0) l | inr l ↦ get_or_past rest.left.items u (pos 0) l ]

  pub holds : All (λ (n : ℤ). n ≡ pos 0) rest.left.items → rest.below ≤ rest.above → IsTrueForm form
  holds all w = record {
    no_unknown_left = λ u. h.coefficients u ∙ sym (nothing_left h.factor (pos rest.scale) (get_or rest.left.items u (pos 0)) (zero_left all u));
    not_negative = (
        let difference : pos 0 ≤ℤ (pos rest.above -ℤ pos rest.below) = omega (arith, ints, w) in
        let factor : pos 0 ≤ℤ h.factor = (let p = h.positive in omega (arith, ints, p)) in
        subst (λ (z : ℤ). pos 0 ≤ℤ z) (sym h.bound) (mul_not_negative h.factor (pos rest.above -ℤ pos rest.below) factor difference));
  }

  scale_positive : pos 0 <ℤ pos rest.scale
  scale_positive = let p = h.scale in omega (arith, ints, p)

  pub nothing_is_left : IsTrueForm form → All (λ (n : ℤ). n ≡ pos 0) rest.left.items
  nothing_is_left t = λ u d l. (
      let product = zero_of_multiple h.factor (pos rest.scale *ℤ get_or rest.left.items u (pos 0)) h.positive (sym (h.coefficients u) ∙ t.no_unknown_left u) in
      let none = zero_of_multiple (pos rest.scale) (get_or rest.left.items u (pos 0)) scale_positive product in
      get_or_default rest.left.items u d (pos 0) l ∙ none)

  pub below_is_less : IsTrueForm form → rest.below ≤ rest.above
  below_is_less t = let s = sign_of_multiple h.factor (pos rest.above -ℤ pos rest.below) h.positive (subst (λ (z : ℤ). pos 0 ≤ℤ z) h.bound t.not_negative) in omega (arith, ints, s)
