-- Values chosen one after another meet all constraints: the substitution in a sum of two constraints gives the sum of
-- their substitutions.
use Rattle.std.proofs.Common.{◌≡◌, ◌≢◌, ℕ, zero, suc, ◌<◌, Bool, true, false, List, [], ◌∷◌, ◌++◌, length, get_or, pos, ℤ, ◌+ℤ◌, ◌-ℤ◌, ◌*ℤ◌, ◌≤ℤ◌, ◌<ℤ◌, negsuc, neg_ℤ, refl, sym, ap, ◌∙◌, subst, arith, ◌⊎◌, inl, inr}
use Rattle.std.specs.Prelude.{All, Contains, if◌then◌else◌, ◌==◌}
use Rattle.std.proofs.Math.IntN.{*ℤ-zero, *ℤ_comm}
use Rattle.std.proofs.lemmas.Bool.{eq-eqb, ne_eqb}
use Rattle.std.proofs.lemmas.Bool.Decides.{eqb_tells}
use Rattle.std.proofs.lemmas.Int.{ints}
use Rattle.std.proofs.lemmas.List.Sums.{fold-append}
use Rattle.std.proofs.lemmas.List.Elements.{All-push, All-contains, Contains-get_or, Contains-push, Contains-push_cases, Contains-append_left}
use Rattle.linear_arith.specs.Inequality.{Inequality, coefficient}
use Rattle.linear_arith.specs.Closure.{IsWithout}
use Rattle.linear_arith.specs.Bounds.{IsMetAt, AreConsistent}
use Rattle.linear_arith.specs.Choice.{left_of, IsBoundOf, HasBound, AreCompatible, MeetsStage}
use Rattle.linear_arith.specs.Stages.{IsSound, IsRemovedFrom, IsWhole}
use Rattle.linear_arith.specs.Substitution.{LinearForm, form_of, put_in, put_in_all, IsTrueForm, Meets, ArePositive}
use Rattle.linear_arith.specs.declared.bounds.Bound.{Bound}
use Rattle.linear_arith.specs.declared.elimination.Stage.{Stage}
use Rattle.linear_arith.specs.Values.{HasValue}
use Rattle.linear_arith.specs.declared.rows.Fraction.{Fraction}
use Rattle.linear_arith.proofs.ClosureLemmas.{size_positive, no_mix, without_in_sum, without_one_more}
use Rattle.base.proofs.WholeNumbers.{mul_assoc, mul_add, mul_neg, mul_sub, mul_swap, mul_positive, mul_negative, mul_not_negative, mul_le, le_of_mul, one_mul, positive_of_multiple, negative_of_multiple, sign_of_multiple, zero_of_multiple}
use Rattle.linear_arith.proofs.ListLemmas.{get_or-past, below_or_past}

pub left_push : (values : List Fraction) (value : Fraction) (row : Inequality) → left_of (values ++ value ∷ []) row ≡ put_in (left_of values row) value
left_push values value row = fold-append put_in (form_of row) values (value ∷ [])

choice_zero : (t : Bool) (q c : ℤ) → c ≡ pos 0 → (if t then pos 0 else (q *ℤ c)) ≡ pos 0
choice_zero true q c e = refl
choice_zero false q c e = ap (λ (z : ℤ). q *ℤ z) e ∙ *ℤ-zero q

choice_true : (t : Bool) (c : ℤ) → t ≡ true → (if t then pos 0 else c) ≡ pos 0
choice_true t c e = ap (λ (b : Bool). if b then pos 0 else c) e

choice_false : (t : Bool) (c : ℤ) → t ≡ false → (if t then pos 0 else c) ≡ c
choice_false t c e = ap (λ (b : Bool). if b then pos 0 else c) e

-- the substitution for an unknown that is not in the form does not change its values
pub zero_stays : (form : LinearForm) (u : ℕ) (values : List Fraction) → form.at u ≡ pos 0 → (put_in_all form values).at u ≡ pos 0
zero_stays form u [] z = z
zero_stays form u (v ∷ vs) z = zero_stays (put_in form v) u vs (choice_zero (u == v.unknown) v.denominator (form.at u) z)

-- an unknown with a value is removed
value_goes : (form : LinearForm) (u : ℕ) (values : List Fraction) (i : ℕ) (v : Fraction) → i < length values → get_or values i v ≡ v → v.unknown ≡ u → (put_in_all form values).at u ≡ pos 0
value_goes form u [] i v l e s = absurd (omega (arith, l))
value_goes form u (w ∷ vs) zero v l e s =
    let same : u ≡ w.unknown = sym s ∙ ap (λ (f : Fraction). f.unknown) (sym e) in
    zero_stays (put_in form w) u vs (choice_true (u == w.unknown) (w.denominator *ℤ form.at u) (eq-eqb u w.unknown same))
value_goes form u (w ∷ vs) (suc i) v l e s = value_goes (put_in form w) u vs i v (omega (arith, l)) e s

abbrev denominators : List Fraction → ℤ
denominators [] = pos 1
denominators (v ∷ vs) = denominators vs *ℤ v.denominator

denominators_positive : (values : List Fraction) → ArePositive values → pos 0 <ℤ denominators values
denominators_positive [] p = size_positive 1 (omega arith)
denominators_positive (v ∷ vs) p = mul_positive (denominators vs) v.denominator (denominators_positive vs (λ k d l. p (suc k) d (omega (arith, l)))) (p 0 v (omega arith))

-- the coefficient of an unknown without a value is multiplied by the denominators
others_scaled : (form : LinearForm) (u : ℕ) (values : List Fraction) → All (λ (v : Fraction). v.unknown ≢ u) values → (put_in_all form values).at u ≡ denominators values *ℤ form.at u
others_scaled form u [] n = sym (one_mul (form.at u))
others_scaled form u (v ∷ vs) n =
    others_scaled (put_in form v) u vs (λ k d l. n (suc k) d (omega (arith, l))) ∙ ap (λ (z : ℤ). denominators vs *ℤ z) (choice_false (u == v.unknown) (v.denominator *ℤ form.at u) (ne_eqb u v.unknown (λ e. n 0 v (omega arith) (sym e)))) ∙ sym (mul_assoc (denominators vs) v.denominator (form.at u))

-- a true form is true after a substitution
true_put_in : (form : LinearForm) (value : Fraction) → pos 0 <ℤ value.denominator → IsTrueForm form → IsTrueForm (put_in form value)
true_put_in form value p t = record {
  no_unknown_left = λ u. choice_zero (u == value.unknown) value.denominator (form.at u) (t.no_unknown_left u);
  not_negative =
      let b = mul_not_negative value.denominator form.bound (omega (arith, ints, p)) t.not_negative in
      let z : form.at value.unknown *ℤ value.numerator ≡ pos 0 = ap (λ (c : ℤ). c *ℤ value.numerator) (t.no_unknown_left value.unknown) ∙ zero_times value.numerator in
      less_zero (value.denominator *ℤ form.bound) (form.at value.unknown *ℤ value.numerator) b z;
}
  where
    zero_times : (z : ℤ) → pos 0 *ℤ z ≡ pos 0
    zero_times z = *ℤ_comm (pos 0) z ∙ *ℤ-zero z

    less_zero : (a b : ℤ) → pos 0 ≤ℤ a → b ≡ pos 0 → pos 0 ≤ℤ (a -ℤ b)
    less_zero a b h e = omega (arith, ints, h, e)

true_stays : (form : LinearForm) (values : List Fraction) → ArePositive values → IsTrueForm form → IsTrueForm (put_in_all form values)
true_stays form [] p t = t
true_stays form (v ∷ vs) p t = true_stays (put_in form v) vs (λ k d l. p (suc k) d (omega (arith, l))) (true_put_in form v (p 0 v (omega arith)) t)

abbrev SumsUp : ℕ → ℕ → ℕ → ℤ → ℤ → ℤ → Type 0
SumsUp g x y t s r = pos g *ℤ t ≡ (pos x *ℤ s) +ℤ (pos y *ℤ r)

-- g times a form is the sum of x times one and y times another
record AreSummed (g x y : ℕ) (first second form : LinearForm) : Type 0 where
  pub at : (u : ℕ) → SumsUp g x y (form.at u) (first.at u) (second.at u)
  pub bound : SumsUp g x y form.bound first.bound second.bound

-- the three numbers, each times another number
sums_up_times : (g x y : ℕ) (t s r q : ℤ) → SumsUp g x y t s r → SumsUp g x y (q *ℤ t) (q *ℤ s) (q *ℤ r)
sums_up_times g x y t s r q h =
    mul_swap (pos g) q t ∙ ap (λ (z : ℤ). q *ℤ z) h ∙ mul_add q (pos x *ℤ s) (pos y *ℤ r) ∙ rw (mul_swap q (pos x) s, mul_swap q (pos y) r) refl

sums_up_less : (g x y : ℕ) (t s r t' s' r' : ℤ) → SumsUp g x y t s r → SumsUp g x y t' s' r' → SumsUp g x y (t -ℤ t') (s -ℤ s') (r -ℤ r')
sums_up_less g x y t s r t' s' r' h k =
    mul_sub (pos g) t t' ∙ rw (h, k, mul_sub (pos x) s s', mul_sub (pos y) r r') (regroup (pos x *ℤ s) (pos y *ℤ r) (pos x *ℤ s') (pos y *ℤ r'))
  where
    regroup : (a b c d : ℤ) → (a +ℤ b) -ℤ (c +ℤ d) ≡ (a -ℤ c) +ℤ (b -ℤ d)
    regroup a b c d = omega (arith, ints)

sums_up_choice : (t : Bool) (g x y : ℕ) (a b c : ℤ) → SumsUp g x y a b c → SumsUp g x y (if t then pos 0 else a) (if t then pos 0 else b) (if t then pos 0 else c)
sums_up_choice true g x y a b c h = *ℤ-zero (pos g) ∙ no_mix (pos x) (pos y)
sums_up_choice false g x y a b c h = h

sums_up_by : (g x y : ℕ) (t s r p : ℤ) → SumsUp g x y t s r → SumsUp g x y (t *ℤ p) (s *ℤ p) (r *ℤ p)
sums_up_by g x y t s r p h = rw (*ℤ_comm t p, *ℤ_comm s p, *ℤ_comm r p) (sums_up_times g x y t s r p h)

summed_put_in : (g x y : ℕ) (first second form : LinearForm) (value : Fraction) → AreSummed g x y first second form → AreSummed g x y (put_in first value) (put_in second value) (put_in form value)
summed_put_in g x y first second form value h = record {
  at = λ u. sums_up_choice (u == value.unknown) g x y _ _ _ (sums_up_times g x y (form.at u) (first.at u) (second.at u) value.denominator (h.at u));
  bound = sums_up_less g x y _ _ _ _ _ _ (sums_up_times g x y form.bound first.bound second.bound value.denominator h.bound) (sums_up_by g x y (form.at value.unknown) (first.at value.unknown) (second.at value.unknown) value.numerator (h.at value.unknown));
}

summed_stays : (g x y : ℕ) (first second form : LinearForm) (values : List Fraction) → AreSummed g x y first second form → AreSummed g x y (put_in_all first values) (put_in_all second values) (put_in_all form values)
summed_stays g x y first second form [] h = h
summed_stays g x y first second form (v ∷ vs) h = summed_stays g x y (put_in first v) (put_in second v) (put_in form v) vs (summed_put_in g x y first second form v h)

-- signs where x * a + y * b is 0 and x * r + y * s is not negative, with a above 0 and b below
compatible_numbers : (x y : ℕ) (a b r s : ℤ) → 0 < x → b <ℤ pos 0 → (pos x *ℤ a) +ℤ (pos y *ℤ b) ≡ pos 0 → pos 0 ≤ℤ ((pos x *ℤ r) +ℤ (pos y *ℤ s)) → (b *ℤ r) ≤ℤ (a *ℤ s)
compatible_numbers x y a b r s p below none h =
    let n = neg_ℤ b in
    let q : pos 0 ≤ℤ n = omega (arith, ints, below) in
    let m = mul_not_negative n ((pos x *ℤ r) +ℤ (pos y *ℤ s)) q h in
    let z : pos y *ℤ n ≡ pos x *ℤ a = (let e = mul_neg (pos y) b in omega (arith, ints, e, none)) in
    let left : n *ℤ (pos x *ℤ r) ≡ pos x *ℤ (n *ℤ r) = mul_swap n (pos x) r in
    let right : n *ℤ (pos y *ℤ s) ≡ pos x *ℤ (a *ℤ s) = mul_swap n (pos y) s ∙ sym (mul_assoc (pos y) n s) ∙ ap (λ (w : ℤ). w *ℤ s) z ∙ mul_assoc (pos x) a s in
    let whole = mul_add n (pos x *ℤ r) (pos y *ℤ s) in
    let parts = mul_add (pos x) (n *ℤ r) (a *ℤ s) in
    let sum = sign_of_multiple (pos x) ((n *ℤ r) +ℤ (a *ℤ s)) (size_positive x p) (omega (arith, ints, m, left, right, whole, parts)) in
    let turned : n *ℤ r ≡ neg_ℤ (b *ℤ r) = *ℤ_comm n r ∙ mul_neg r b ∙ ap (λ (w : ℤ). neg_ℤ w) (*ℤ_comm r b) in
    omega (arith, ints, sum, turned)

-- values for all unknowns except these, which meet each constraint without these
pub record AreChosen (width : ℕ) (found : List Inequality) (unknowns : List ℕ) (values : List Fraction) : Type 0 where
  pub positive : ArePositive values
  pub met : (row : Inequality) → Contains found row → IsWithout unknowns row → Meets values row
  pub covered : (u : ℕ) → u < width → Contains unknowns u ⊎ HasValue values u
  pub others : (value : Fraction) → Contains values value → Contains unknowns value.unknown → ⊥

-- where no unknown is left in these constraints, all positive values meet them
pub met_by_all : (row : Inequality) (values : List Fraction) → ArePositive values → IsSound row → ((u : ℕ) → coefficient u row ≡ pos 0) → Meets values row
met_by_all row values p sound none = true_stays (form_of row) values p (record { no_unknown_left = none; not_negative = sound none })

pub no_value_yet : (width : ℕ) (found : List Inequality) (unknowns : List ℕ) (unknown : ℕ) (values : List Fraction) → AreChosen width found (unknowns ++ unknown ∷ []) values → All (λ (v : Fraction). v.unknown ≢ unknown) values
no_value_yet width found unknowns unknown values c k d l e = c.others (get_or values k d) (Contains-get_or values k d l) (subst (λ (u : ℕ). Contains (unknowns ++ unknown ∷ []) u) (sym e) (Contains-push unknowns unknown))

-- the constraints of a stage after the substitution of the values of the later stages
pub stage_compatible : (width : ℕ) (found : List Inequality) (unknowns : List ℕ) (stage : Stage) (values : List Fraction) → IsWhole found unknowns stage → AreChosen width found (unknowns ++ stage.unknown ∷ []) values → AreCompatible stage values
stage_compatible width found unknowns stage values w c upper lower su sl above below =
    let n = no_value_yet width found unknowns stage.unknown values c in
    let p = denominators_positive values c.positive in
    let above' = positive_of_multiple (denominators values) (coefficient stage.unknown upper) p (subst (λ (z : ℤ). pos 0 <ℤ z) (others_scaled (form_of upper) stage.unknown values n) above) in
    let below' = negative_of_multiple (denominators values) (coefficient stage.unknown lower) p (subst (λ (z : ℤ). z <ℤ pos 0) (others_scaled (form_of lower) stage.unknown values n) below) in
    let s = w.sums.sums upper lower (w.is_found upper su) (w.is_found lower sl) (w.without upper su) (w.without lower sl) above' below' in
    let i = s.is_sum in
    let met = c.met s.row s.is_found (without_in_sum unknowns stage.unknown upper lower s.row i (w.without upper su) (w.without lower sl)) in
    let summed = summed_stays i.factor i.first i.second (form_of upper) (form_of lower) (form_of s.row) values (record { at = i.coefficients; bound = i.bound }) in
    let none = sym (summed.at stage.unknown) ∙ ap (λ (z : ℤ). pos i.factor *ℤ z) (met.no_unknown_left stage.unknown) ∙ *ℤ-zero (pos i.factor) in
    let most = subst (λ (z : ℤ). pos 0 ≤ℤ z) summed.bound (mul_not_negative (pos i.factor) (left_of values s.row).bound (let q = size_positive i.factor i.factor_positive in omega (arith, ints, q)) met.not_negative) in
    compatible_numbers i.first i.second _ _ _ _ i.first_positive below none most

zero_or_not : (z : ℤ) → (z ≡ pos 0) ⊎ (z ≢ pos 0)
zero_or_not (pos zero) = inl refl
zero_or_not (pos (suc n)) = inr (λ e. omega (arith, ints, e))
zero_or_not (negsuc n) = inr (λ e. omega (arith, ints, e))

-- a constraint of a stage after the substitution of the value of its unknown
all_gone : (width : ℕ) (found : List Inequality) (unknowns : List ℕ) (unknown : ℕ) (values : List Fraction) (value : Fraction) (row : Inequality) → AreChosen width found (unknowns ++ unknown ∷ []) values → value.unknown ≡ unknown → length row.coefficients ≡ width → IsWithout unknowns row → (u : ℕ) → (put_in (left_of values row) value).at u ≡ pos 0
all_gone width found unknowns unknown values value row c same len without u = elim (eqb_tells u value.unknown) [
  | inl e ↦ choice_true (u == value.unknown) (value.denominator *ℤ (left_of values row).at u) e.0
  | inr n ↦ choice_zero (u == value.unknown) value.denominator ((left_of values row).at u) (elim (below_or_past u width) as (λ _. (left_of values row).at u ≡ pos 0) [
    | inr l ↦ zero_stays (form_of row) u values (get_or-past row.coefficients u (pos 0) (omega (arith, l, len)))
    | inl l ↦ elim (c.covered u l) [
      | inr v ↦ value_goes (form_of row) u values v.is_in.0 v.value v.is_in.1 v.is_in.2 v.same
      | inl h ↦ elim (Contains-push_cases unknowns unknown u h) [
        | inl h ↦ zero_stays (form_of row) u values (All-contains (λ (u : ℕ). coefficient u row ≡ pos 0) unknowns u without h)
        | inr e ↦ absurd (n.1 (sym e ∙ sym same))
      ]
    ]
  ])
]

-- one more value
pub chosen_next : (width : ℕ) (found : List Inequality) (unknowns : List ℕ) (stage : Stage) (values : List Fraction) (value : Fraction) → All (λ row. length row.coefficients ≡ width) found → IsWhole found unknowns stage → AreChosen width found (unknowns ++ stage.unknown ∷ []) values → value.unknown ≡ stage.unknown → pos 0 <ℤ value.denominator → MeetsStage stage values value → (Contains unknowns stage.unknown → ⊥) → AreChosen width found unknowns (values ++ value ∷ [])
chosen_next width found unknowns stage values value len w c same p meets new = record {
  positive = All-push (λ (v : Fraction). pos 0 <ℤ v.denominator) values value c.positive p;
  met = λ row h without. subst (λ (f : LinearForm). IsTrueForm f) (sym (left_push values value row)) (elim (zero_or_not (coefficient stage.unknown row)) [
    | inl z ↦ true_put_in (left_of values row) value p (c.met row h (without_one_more unknowns stage.unknown row without z))
    | inr n ↦
        let scaled = others_scaled (form_of row) stage.unknown values (no_value_yet width found unknowns stage.unknown values c) in
        record {
          no_unknown_left = all_gone width found unknowns stage.unknown values value row c same (All-contains (λ (r : Inequality). length r.coefficients ≡ width) found row len h) without;
          not_negative = meets row (w.whole row h without n) (λ e. n (zero_of_multiple (denominators values) (coefficient stage.unknown row) (denominators_positive values c.positive) (sym scaled ∙ e)));
        }
  ]);
  covered = λ u l. elim (c.covered u l) [
    | inr v ↦ inr (record { value = v.value; is_in = Contains-append_left values (value ∷ []) v.value v.is_in; same = v.same })
    | inl h ↦ elim (Contains-push_cases unknowns stage.unknown u h) [
      | inl h ↦ inl h
      | inr e ↦ inr (record { value = value; is_in = Contains-push values value; same = same ∙ e })
    ]
  ];
  others = λ v h in_them. elim (Contains-push_cases values value v h) [
    | inl o ↦ c.others v o (Contains-append_left unknowns (stage.unknown ∷ []) v.unknown in_them)
    | inr e ↦ new (subst (λ (u : ℕ). Contains unknowns u) (ap (λ (f : Fraction). f.unknown) (sym e) ∙ same) in_them)
  ];
}

consistent_numbers : (s t a r b m : ℤ) → pos 0 <ℤ s → pos 0 <ℤ t → ((t *ℤ b) *ℤ (s *ℤ r)) ≤ℤ ((s *ℤ a) *ℤ (t *ℤ m)) → (b *ℤ r) ≤ℤ (a *ℤ m)
consistent_numbers s t a r b m p q h =
    let left : (t *ℤ b) *ℤ (s *ℤ r) ≡ t *ℤ (s *ℤ (b *ℤ r)) = mul_assoc t b (s *ℤ r) ∙ ap (λ (z : ℤ). t *ℤ z) (mul_swap b s r) in
    let right : (s *ℤ a) *ℤ (t *ℤ m) ≡ t *ℤ (s *ℤ (a *ℤ m)) = mul_assoc s a (t *ℤ m) ∙ ap (λ (z : ℤ). s *ℤ z) (mul_swap a t m) ∙ mul_swap s t (a *ℤ m) in
    le_of_mul s (b *ℤ r) (a *ℤ m) p (le_of_mul t (s *ℤ (b *ℤ r)) (s *ℤ (a *ℤ m)) q (omega (arith, ints, h, left, right)))

-- a bound of one of the stage's constraints
pub record IsOfStageRow (stage : Stage) (values : List Fraction) (bound : Bound) : Type 0 where
  pub row : Inequality
  pub stands : IsRemovedFrom stage row
  pub is_bound_of : IsBoundOf (left_of values row) stage.unknown bound

pub bounds_consistent : (stage : Stage) (values : List Fraction) (bounds : List Bound) → AreCompatible stage values → ((bound : Bound) → Contains bounds bound → IsOfStageRow stage values bound) → AreConsistent bounds
bounds_consistent stage values bounds compatible from = λ k d l up i e m lo.
    let u = get_or bounds k d in
    let b = get_or bounds i e in
    let a = from u (Contains-get_or bounds k d l) in
    let z = from b (Contains-get_or bounds i e m) in
    let p = a.is_bound_of in
    let q = z.is_bound_of in
    let above = subst (λ (n : ℤ). pos 0 <ℤ n) p.coefficient (mul_positive p.scale u.coefficient p.positive up) in
    let below = subst (λ (n : ℤ). n <ℤ pos 0) q.coefficient (mul_negative q.scale b.coefficient q.positive lo) in
    let h = compatible a.row z.row a.stands z.stands above below in
    consistent_numbers p.scale q.scale u.coefficient u.bound b.coefficient b.bound p.positive q.positive (rw (p.coefficient, p.is_most, q.coefficient, q.is_most) h)

met_number : (s c b p q f m : ℤ) → pos 0 <ℤ s → s *ℤ c ≡ f → s *ℤ b ≡ m → (c *ℤ p) ≤ℤ (b *ℤ q) → pos 0 ≤ℤ ((q *ℤ m) -ℤ (f *ℤ p))
met_number s c b p q f m h e g le =
    let k = mul_le s (c *ℤ p) (b *ℤ q) (omega (arith, ints, h)) le in
    let left : s *ℤ (c *ℤ p) ≡ f *ℤ p = sym (mul_assoc s c p) ∙ ap (λ (z : ℤ). z *ℤ p) e in
    let right : s *ℤ (b *ℤ q) ≡ q *ℤ m = sym (mul_assoc s b q) ∙ ap (λ (z : ℤ). z *ℤ q) g ∙ *ℤ_comm m q in
    omega (arith, ints, k, left, right)

-- a value that meets the bounds meets a constraint with such a bound
pub form_met : (form : LinearForm) (unknown : ℕ) (bounds : List Bound) (value : Fraction) → HasBound form unknown bounds → value.unknown ≡ unknown → All (IsMetAt value.numerator value.denominator) bounds → pos 0 ≤ℤ (put_in form value).bound
form_met form unknown bounds value h same met =
    let b = h.is_bound_of in
    let at = All-contains (IsMetAt value.numerator value.denominator) bounds h.bound met h.is_in in
    met_number b.scale h.bound.coefficient h.bound.bound value.numerator value.denominator (form.at value.unknown) form.bound b.positive (b.coefficient ∙ ap form.at (sym same)) b.is_most at
