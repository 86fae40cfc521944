-- Bounds on one unknown: which values satisfy them, and which one is chosen between them.
use Rattle.std.proofs.Common.{◌≡◌, ◌≢◌, ℕ, zero, suc, ◌+◌, ◌^◌, ◌<◌, ◌≤◌, Bool, true, false, not, List, [], length, take, get_or, pos, negsuc, ℤ, ◌+ℤ◌, ◌-ℤ◌, ◌*ℤ◌, ◌≤ℤ◌, ◌<ℤ◌, neg_ℤ, refl, sym, ap, ◌∙◌, subst, arith, ◌⊎◌, inl, inr}
use Rattle.std.specs.Prelude.{unsigned_abs, Contains}
use Rattle.std.specs.Bool.{Decides}
use Rattle.std.specs.Int.{IsGcd}
use Rattle.std.proofs.Math.IntN.{*ℤ_comm}
use Rattle.std.proofs.lemmas.Bool.{false≢true}
use Rattle.std.proofs.lemmas.Int.{ints, by_lt_z}
use Rattle.std.proofs.lemmas.List.{take_all, take_more}
use Rattle.std.proofs.lemmas.List.Elements.{Contains-get_or, Contains-push_cases}
use Rattle.linear_arith.proofs.ListLemmas.{below_or_past}
use Rattle.linear_arith.specs.Floor.{IsFloor}
use Rattle.linear_arith.specs.declared.rows.Fraction.{Fraction}
use Rattle.base.proofs.WholeNumbers.{mul_neg, neg_mul, mul_swap, mul_le, le_of_mul, one_mul}
use Rattle.step_checks.specs.declared.elimination.bounds.Bound.{Bound}
use Rattle.step_checks.specs.Choices.{AreMetAt, IsReachedAt, HasReached, IsNearest, HasNoWhole, IsBetween}
use Rattle.step_checks.specs.Choices.IsBetween.{whole, bound}

times_one : (a : ℤ) → a *ℤ pos 1 ≡ a
times_one a = *ℤ_comm a (pos 1) ∙ one_mul a

-- what lies between a number and a quotient that satisfy a bound satisfies it
upwards : (c b p q z x : ℤ) → pos 0 <ℤ q → (c *ℤ p) ≤ℤ (b *ℤ q) → (c *ℤ z) ≤ℤ (b *ℤ pos 1) → z ≤ℤ x → (x *ℤ q) ≤ℤ p → (c *ℤ x) ≤ℤ (b *ℤ pos 1)
upwards c b p q z x hq mp mz le below = by_lt_z c (pos 0) negative positive
  where
    negative : c <ℤ pos 0 → (c *ℤ x) ≤ℤ (b *ℤ pos 1)
    negative n =
        let one = mul_le (neg_ℤ c) z x (omega (arith, ints, n)) le in
        let e = neg_mul c z in
        let f = neg_mul c x in
        omega (arith, ints, one, e, f, mz)

    positive : pos 0 ≤ℤ c → (c *ℤ x) ≤ℤ (b *ℤ pos 1)
    positive n =
        let one = mul_le c (x *ℤ q) p n below in
        let e : c *ℤ (x *ℤ q) ≡ q *ℤ (c *ℤ x) = ap (λ (w : ℤ). c *ℤ w) (*ℤ_comm x q) ∙ mul_swap c q x in
        let f : b *ℤ q ≡ q *ℤ b = *ℤ_comm b q in
        let g = times_one b in
        let less : (q *ℤ (c *ℤ x)) ≤ℤ (q *ℤ b) = omega (arith, ints, one, e, f, mp) in
        let met = le_of_mul q (c *ℤ x) b hq less in
        omega (arith, ints, met, g)

both_negated : (a b : ℤ) → neg_ℤ a *ℤ neg_ℤ b ≡ a *ℤ b
both_negated a b = neg_mul a (neg_ℤ b) ∙ ap neg_ℤ (mul_neg a b) ∙ twice (a *ℤ b)
  where
    twice : (z : ℤ) → neg_ℤ (neg_ℤ z) ≡ z
    twice z = omega (arith, ints)

downwards : (c b p q z x : ℤ) → pos 0 <ℤ q → (c *ℤ p) ≤ℤ (b *ℤ q) → (c *ℤ z) ≤ℤ (b *ℤ pos 1) → x ≤ℤ z → p ≤ℤ (x *ℤ q) → (c *ℤ x) ≤ℤ (b *ℤ pos 1)
downwards c b p q z x hq mp mz le above =
    let e = neg_mul x q in
    let met = upwards (neg_ℤ c) b (neg_ℤ p) q (neg_ℤ z) (neg_ℤ x) hq (subst (λ (w : ℤ). w ≤ℤ (b *ℤ q)) (sym (both_negated c p)) mp) (subst (λ (w : ℤ). w ≤ℤ (b *ℤ pos 1)) (sym (both_negated c z)) mz) (omega (arith, ints, le)) (omega (arith, ints, e, above)) in
    subst (λ (w : ℤ). w ≤ℤ (b *ℤ pos 1)) (both_negated c x) met

pub met_upwards : (bounds : List Bound) (p q z x : ℤ) → pos 0 <ℤ q → AreMetAt bounds p q → AreMetAt bounds z (pos 1) → z ≤ℤ x → (x *ℤ q) ≤ℤ p → AreMetAt bounds x (pos 1)
met_upwards bounds p q z x hq mp mz le below k d l = upwards (get_or bounds k d).coefficient (get_or bounds k d).bound p q z x hq (mp k d l) (mz k d l) le below

pub met_downwards : (bounds : List Bound) (p q z x : ℤ) → pos 0 <ℤ q → AreMetAt bounds p q → AreMetAt bounds z (pos 1) → x ≤ℤ z → p ≤ℤ (x *ℤ q) → AreMetAt bounds x (pos 1)
met_downwards bounds p q z x hq mp mz le above k d l = downwards (get_or bounds k d).coefficient (get_or bounds k d).bound p q z x hq (mp k d l) (mz k d l) le above

-- the next number towards 0 is nearer, and nothing is between
above_nearer : (p : ℤ) → pos 0 <ℤ p → unsigned_abs p ≤ unsigned_abs (p -ℤ pos 1) → ⊥
above_nearer (pos zero) h le = absurd (omega (arith, ints, h))
above_nearer (pos (suc n)) h le =
    let e : pos (suc n) -ℤ pos 1 ≡ pos n = omega (arith, ints) in
    let f : suc n ≤ n = subst (λ (z : ℤ). suc n ≤ unsigned_abs z) e le in
    omega (arith, f)
above_nearer (negsuc n) h le = absurd (omega (arith, ints, h))

below_nearer : (p : ℤ) → p <ℤ pos 0 → unsigned_abs p ≤ unsigned_abs (p +ℤ pos 1) → ⊥
below_nearer (pos n) h le = absurd (omega (arith, ints, h))
below_nearer (negsuc zero) h le =
    let e : negsuc zero +ℤ pos 1 ≡ pos 0 = omega (arith, ints) in
    let f : 1 ≤ 0 = subst (λ (z : ℤ). 1 ≤ unsigned_abs z) e le in
    omega (arith, f)
below_nearer (negsuc (suc n)) h le =
    let e : negsuc (suc n) +ℤ pos 1 ≡ negsuc n = omega (arith, ints) in
    let f : suc (suc n) ≤ suc n = subst (λ (z : ℤ). suc (suc n) ≤ unsigned_abs z) e le in
    omega (arith, f)

above_between : (p z : ℤ) → pos 0 <ℤ p → unsigned_abs z < unsigned_abs p → z ≤ℤ (p -ℤ pos 1)
above_between (pos n) (pos m) h l = omega (arith, ints, l)
above_between (pos n) (negsuc m) h l = omega (arith, ints, h)
above_between (negsuc n) z h l = absurd (omega (arith, ints, h))

below_between : (p z : ℤ) → p <ℤ pos 0 → unsigned_abs z < unsigned_abs p → (p +ℤ pos 1) ≤ℤ z
below_between (pos n) z h l = absurd (omega (arith, ints, h))
below_between (negsuc n) (pos m) h l = omega (arith, ints)
below_between (negsuc n) (negsuc m) h l = omega (arith, ints, l)

less_or_not : (a b : ℕ) → (a < b) ⊎ (b ≤ a)
less_or_not a b = below_or_past a b

itself : (z : ℤ) → z ≤ℤ z
itself z = omega (arith, ints)

pub nearest_above : (bounds : List Bound) (p : ℤ) (b : Bool) → AreMetAt bounds p (pos 1) → pos 0 <ℤ p → Decides b (AreMetAt bounds (p -ℤ pos 1) (pos 1)) → Decides (not b) (IsNearest bounds p)
nearest_above bounds p true met h d = (λ t. absurd (false≢true t), λ n. absurd (above_nearer p h (n (p -ℤ pos 1) (d.0 refl))))
nearest_above bounds p false met h d = (
  λ t z mz. elim (less_or_not (unsigned_abs z) (unsigned_abs p)) [
    | inr le ↦ le
    | inl l ↦ absurd (false≢true (d.1 (met_upwards bounds p (pos 1) z (p -ℤ pos 1) (omega (arith, ints)) met mz (above_between p z h l) (let e = times_one (p -ℤ pos 1) in omega (arith, ints, e)))))
  ],
  λ n. refl,
)

pub nearest_below : (bounds : List Bound) (p : ℤ) (b : Bool) → AreMetAt bounds p (pos 1) → p <ℤ pos 0 → Decides b (AreMetAt bounds (p +ℤ pos 1) (pos 1)) → Decides (not b) (IsNearest bounds p)
nearest_below bounds p true met h d = (λ t. absurd (false≢true t), λ n. absurd (below_nearer p h (n (p +ℤ pos 1) (d.0 refl))))
nearest_below bounds p false met h d = (
  λ t z mz. elim (less_or_not (unsigned_abs z) (unsigned_abs p)) [
    | inr le ↦ le
    | inl l ↦ absurd (false≢true (d.1 (met_downwards bounds p (pos 1) z (p +ℤ pos 1) (omega (arith, ints)) met mz (below_between p z h l) (let e = times_one (p +ℤ pos 1) in omega (arith, ints, e)))))
  ],
  λ n. refl,
)

pub zero_nearest : (bounds : List Bound) (p : ℤ) → p ≡ pos 0 → IsNearest bounds p
zero_nearest bounds p e z met = subst (λ (w : ℤ). unsigned_abs w ≤ unsigned_abs z) (sym e) (omega arith)

-- one of the whole numbers that satisfy the bounds is next to a quotient that does
pub none_around : (bounds : List Bound) (p q f : ℤ) (n : ℕ) → pos n ≡ q → pos 0 <ℤ q → AreMetAt bounds p q → IsFloor p n f → (AreMetAt bounds f (pos 1) → ⊥) → (AreMetAt bounds (f +ℤ pos 1) (pos 1) → ⊥) → HasNoWhole bounds
none_around bounds p q f n e hq met floor below above z mz = by_lt_z f z higher lower
  where
    higher : f <ℤ z → ⊥
    higher less =
        let g = *ℤ_comm (pos n) (f +ℤ pos 1) in
        let h : p ≤ℤ ((f +ℤ pos 1) *ℤ pos n) = (let k = floor.above in omega (arith, ints, g, k)) in
        above (met_downwards bounds p q z (f +ℤ pos 1) hq met mz (omega (arith, ints, less)) (subst (λ (w : ℤ). p ≤ℤ ((f +ℤ pos 1) *ℤ w)) e h))

    lower : z ≤ℤ f → ⊥
    lower less =
        let g = *ℤ_comm (pos n) f in
        let h : (f *ℤ pos n) ≤ℤ p = (let k = floor.below in omega (arith, ints, g, k)) in
        below (met_upwards bounds p q z f hq met mz less (subst (λ (w : ℤ). (f *ℤ w) ≤ℤ p) e h))

pub around_decided : (bounds : List Bound) (p q f : ℤ) (n : ℕ) (b c : Bool) → pos n ≡ q → pos 0 <ℤ q → AreMetAt bounds p q → IsFloor p n f → Decides b (AreMetAt bounds f (pos 1)) → Decides c (AreMetAt bounds (f +ℤ pos 1) (pos 1)) → b ≡ false → Decides (not c) (HasNoWhole bounds)
around_decided bounds p q f n b true e hq met floor d k z = (λ t. absurd (false≢true t), λ h. absurd (h (f +ℤ pos 1) (k.0 refl)))
around_decided bounds p q f n b false e hq met floor d k z = (λ t. none_around bounds p q f n e hq met floor (λ m. false≢true (sym z ∙ d.1 m)) (λ m. false≢true (k.1 m)), λ h. refl)

-- the chosen values
pub between_positive : (bounds : List Bound) (value : Fraction) → IsBetween bounds value → pos 0 <ℤ value.denominator
between_positive bounds value (whole one met near) = subst (λ (z : ℤ). pos 0 <ℤ z) (sym one) (omega (arith, ints))
between_positive bounds value (bound none positive lowest met reached) = positive

pub between_met : (bounds : List Bound) (value : Fraction) → IsBetween bounds value → AreMetAt bounds value.numerator value.denominator
between_met bounds value (whole one met near) = subst (λ (z : ℤ). AreMetAt bounds value.numerator z) (sym one) met
between_met bounds value (bound none positive lowest met reached) = met

pub whole_between : (bounds : List Bound) (value : Fraction) (b : Bool) → value.denominator ≡ pos 1 → AreMetAt bounds value.numerator (pos 1) → Decides b (IsNearest bounds value.numerator) → Decides b (IsBetween bounds value)
whole_between bounds value b one met d = (λ t. whole one met (d.0 t), λ h. d.1 (near h))
  where
    near : IsBetween bounds value → IsNearest bounds value.numerator
    near (whole e m n) = n
    near (bound none positive lowest m reached) = absurd (none value.numerator met)

-- what a value that is no whole number must be
pub record IsQuotient (bounds : List Bound) (value : Fraction) : Type 0 where
  pub lowest : IsGcd (unsigned_abs value.numerator) (unsigned_abs value.denominator) 1
  pub reached : HasReached bounds value.numerator value.denominator
  pub no_whole : HasNoWhole bounds

pub quotient_of : (bounds : List Bound) (value : Fraction) → value.denominator ≢ pos 1 → IsBetween bounds value → IsQuotient bounds value
quotient_of bounds value n (whole one met near) = absurd (n one)
quotient_of bounds value n (bound none positive lowest met reached) = record { lowest = lowest; reached = reached; no_whole = none }

-- whether a bound is attained, one bound after another
pub none_reached : (p q : ℤ) → HasReached [] p q → ⊥
none_reached p q h = let l = h.is_in.1 in absurd (omega (arith, l))

pub reached_at : (bounds : List Bound) (p q : ℤ) (i : ℕ) (d : Bound) → i < length bounds → IsReachedAt p q (get_or bounds i d) → HasReached bounds p q
reached_at bounds p q i d l h = record { bound = get_or bounds i d; is_in = Contains-get_or bounds i d l; is_reached = h }

pub reached_more : (bounds : List Bound) (p q : ℤ) (i : ℕ) (d : Bound) → i < length bounds → (IsReachedAt p q (get_or bounds i d) → ⊥) → (HasReached (take i bounds) p q → ⊥) → HasReached (take (i + 1) bounds) p q → ⊥
reached_more bounds p q i d l here before h = elim (Contains-push_cases (take i bounds) (get_or bounds i d) h.bound (subst (λ (bs : List Bound). Contains bs h.bound) (take_more bounds i d l) h.is_in)) [
  | inl o ↦ before (record { bound = h.bound; is_in = o; is_reached = h.is_reached })
  | inr e ↦ here (subst (λ (b : Bound). IsReachedAt p q b) (sym e) h.is_reached)
]

pub reached_end : (bounds : List Bound) (p q : ℤ) (i : ℕ) → length bounds ≤ i → (HasReached (take i bounds) p q → ⊥) → HasReached bounds p q → ⊥
reached_end bounds p q i l none h = none (subst (λ (bs : List Bound). HasReached bs p q) (sym (take_all i bounds l)) h)

-- if a product is at most another one and vice versa, they are equal
pub both_at_most : (a b : ℤ) → a ≤ℤ b → b ≤ℤ a → a ≡ b
both_at_most a b h k = omega (arith, ints, h, k)

pub reached_decided : (a b : ℤ) (s : Bool) → a ≤ℤ b → Decides s (b ≤ℤ a) → Decides s (a ≡ b)
reached_decided a b s h d = (λ t. both_at_most a b h (d.0 t), λ e. d.1 (subst (λ (z : ℤ). b ≤ℤ z) (sym e) (itself b)))

pub not_reached : (a b : ℤ) → (a ≤ℤ b → ⊥) → a ≡ b → ⊥
not_reached a b h e = h (subst (λ (z : ℤ). z ≤ℤ b) (sym e) (itself b))

pub size_of_positive : (z : ℤ) → pos 0 <ℤ z → pos (unsigned_abs z) ≡ z
size_of_positive (pos n) h = refl
size_of_positive (negsuc n) h = absurd (omega (arith, ints, h))

-- a quotient by more than 1 has room above it
pub more_than_one : (q : ℤ) (n : ℕ) → n ≡ unsigned_abs q → pos 1 <ℤ q → 1 < n
more_than_one (pos m) n e h = omega (arith, ints, e, h)
more_than_one (negsuc m) n e h = absurd (omega (arith, ints, h))

pub next_fits : (p f : ℤ) (n : ℕ) → 1 < n → p <ℤ pos (2 ^ 127) → IsFloor p n f → (f +ℤ pos 1) <ℤ pos (2 ^ 127)
next_fits p (negsuc k) n h l floor = omega (arith, ints)
next_fits p (pos k) n h l floor =
    let two = mul_le (pos k) (pos 2) (pos n) (omega (arith, ints)) (omega (arith, ints, h)) in
    let e = *ℤ_comm (pos k) (pos n) in
    let g = floor.below in
    omega (arith, ints, two, e, g, l)

pub quotient_decided : (bounds : List Bound) (value : Fraction) (b : Bool) → pos 0 <ℤ value.denominator → value.denominator ≢ pos 1 → AreMetAt bounds value.numerator value.denominator → IsGcd (unsigned_abs value.numerator) (unsigned_abs value.denominator) 1 → HasReached bounds value.numerator value.denominator → Decides b (HasNoWhole bounds) → Decides b (IsBetween bounds value)
quotient_decided bounds value b positive n met lowest reached d = (
  λ t. bound (d.0 t) positive lowest met reached,
  λ h. d.1 (quotient_of bounds value n h).no_whole,
)
