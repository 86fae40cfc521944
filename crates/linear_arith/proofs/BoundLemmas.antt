-- The bounds of an unknown: the tighter one of two, and the values that meet them.
use Rattle.std.proofs.Common.{◌≡◌, ◌≢◌, Bool, true, false, cond, ℕ, zero, suc, ◌+◌, ◌*◌, ◌-◌, ◌^◌, ◌<◌, ◌≤◌, pos, negsuc, ℤ, ◌+ℤ◌, ◌*ℤ◌, ◌≤ℤ◌, ◌<ℤ◌, neg_ℤ, refl, sym, ap, ◌∙◌, subst, arith, ◌↔◌, ◌⊎◌, inl, inr, List, get_or, Option, Some, None, MatchOption, IfSome, FitsSigned, below_more}
use Rattle.std.specs.Prelude.{unsigned_abs, All}
use Rattle.std.proofs.Math.IntN.{*ℤ_comm}
use Rattle.std.proofs.Math.Nat.{one-dvd, mul-dvd-mul_left, dvd_of_mul-dvd-mul_left}
use Rattle.std.proofs.lemmas.Int.{ints, by_lt_z, unsigned_abs-mul}
use Rattle.std.specs.Int.{w128, IsGcd, ◌∣◌}
use Rattle.linear_arith.specs.Bounds.{IsOn, IsMetAt, IsAsTight, IsTightest, AreConsistent, AreNonzero, AreMet, FitsBound, IsBetween, IsReached}
use Rattle.linear_arith.specs.Bounds.IsBetween.{whole}
use Rattle.linear_arith.specs.declared.rows.Fraction.{Fraction}
use Rattle.linear_arith.proofs.ListLemmas.{below_or_past}
use Rattle.linear_arith.specs.Floor.{IsFloor}
use Rattle.linear_arith.specs.declared.bounds.Bound.{Bound}
use Rattle.linear_arith.specs.declared.bounds.Side.{Side}
use Rattle.linear_arith.specs.declared.bounds.Side.TheVariants.{Upper, Lower}
use Rattle.base.proofs.WholeNumbers.{mul_swap, mul_neg, neg_mul, mul_le, le_of_mul, one_mul}

-- products of numbers and absolute values, by the absolute values of both
pub products_not_negative : (a b : ℤ) (m n : ℕ) → pos 0 ≤ℤ a → pos 0 ≤ℤ b → ((unsigned_abs a * m ≤ unsigned_abs b * n) ↔ ((a *ℤ pos m) ≤ℤ (b *ℤ pos n)))
products_not_negative (pos a) (pos b) m n h k = (λ p. omega (arith, ints, p), λ p. omega (arith, ints, p))
products_not_negative (pos a) (negsuc b) m n h k = absurd (omega (arith, ints, k))
products_not_negative (negsuc a) b m n h k = absurd (omega (arith, ints, h))

pub products_negative : (a b : ℤ) (m n : ℕ) → a <ℤ pos 0 → b <ℤ pos 0 → ((unsigned_abs b * n ≤ unsigned_abs a * m) ↔ ((a *ℤ pos m) ≤ℤ (b *ℤ pos n)))
products_negative (pos a) b m n h k = absurd (omega (arith, ints, h))
products_negative (negsuc a) (pos b) m n h k = absurd (omega (arith, ints, k))
products_negative (negsuc a) (negsuc b) m n h k = (λ p. omega (arith, ints, p), λ p. omega (arith, ints, p))

pub products_mixed : (a b : ℤ) (m n : ℕ) → a <ℤ pos 0 → pos 0 ≤ℤ b → (a *ℤ pos m) ≤ℤ (b *ℤ pos n)
products_mixed (pos a) b m n h k = absurd (omega (arith, ints, h))
products_mixed (negsuc a) (pos b) m n h k = omega (arith, ints)
products_mixed (negsuc a) (negsuc b) m n h k = absurd (omega (arith, ints, k))

pub products_other : (a b : ℤ) (m n : ℕ) → pos 0 ≤ℤ a → b <ℤ pos 0 → 0 < n → ¬ ((a *ℤ pos m) ≤ℤ (b *ℤ pos n))
products_other (pos a) (pos b) m n h k l p = absurd (omega (arith, ints, k))
products_other (pos a) (negsuc b) m zero h k l p = absurd (omega (arith, l))
products_other (pos a) (negsuc b) m (suc n) h k l p = omega (arith, ints, p)
products_other (negsuc a) b m n h k l p = absurd (omega (arith, ints, h))

pub size_positive : (z : ℤ) → z ≢ pos 0 → 0 < unsigned_abs z
size_positive (pos zero) h = absurd (h refl)
size_positive (pos (suc n)) h = omega arith
size_positive (negsuc n) h = omega arith

-- tightness is transitive
pub IsAsTight_trans : (a b c : Bound) → b.coefficient ≢ pos 0 → IsAsTight a b → IsAsTight b c → IsAsTight a c
IsAsTight_trans a b c h ab bc = go (unsigned_abs a.coefficient) (unsigned_abs b.coefficient) (unsigned_abs c.coefficient) a.bound b.bound c.bound (size_positive b.coefficient h) ab bc
  where
    go : (k m n : ℕ) (x y z : ℤ) → 0 < m → (x *ℤ pos m) ≤ℤ (y *ℤ pos k) → (y *ℤ pos n) ≤ℤ (z *ℤ pos m) → (x *ℤ pos n) ≤ℤ (z *ℤ pos k)
    go k m n x y z p ab bc =
        let one = mul_le (pos n) (x *ℤ pos m) (y *ℤ pos k) (omega (arith, ints)) ab in
        let two = mul_le (pos k) (y *ℤ pos n) (z *ℤ pos m) (omega (arith, ints)) bc in
        let e1 : pos n *ℤ (x *ℤ pos m) ≡ pos m *ℤ (x *ℤ pos n) = ap (λ (w : ℤ). pos n *ℤ w) (*ℤ_comm x (pos m)) ∙ mul_swap (pos n) (pos m) x ∙ ap (λ (w : ℤ). pos m *ℤ w) (*ℤ_comm (pos n) x) in
        let e2 : pos n *ℤ (y *ℤ pos k) ≡ pos k *ℤ (y *ℤ pos n) = ap (λ (w : ℤ). pos n *ℤ w) (*ℤ_comm y (pos k)) ∙ mul_swap (pos n) (pos k) y ∙ ap (λ (w : ℤ). pos k *ℤ w) (*ℤ_comm (pos n) y) in
        let e3 : pos k *ℤ (z *ℤ pos m) ≡ pos m *ℤ (z *ℤ pos k) = ap (λ (w : ℤ). pos k *ℤ w) (*ℤ_comm z (pos m)) ∙ mul_swap (pos k) (pos m) z ∙ ap (λ (w : ℤ). pos m *ℤ w) (*ℤ_comm (pos k) z) in
        let m_positive : pos 0 <ℤ pos m = omega (arith, ints, p) in
        le_of_mul (pos m) (x *ℤ pos n) (z *ℤ pos k) m_positive (omega (arith, ints, one, two, e1, e2, e3))

on_side_nonzero : (side : Side) (b : Bound) → IsOn side b → b.coefficient ≢ pos 0
on_side_nonzero Upper b h e = let z : pos 0 <ℤ pos 0 = subst (λ (c : ℤ). pos 0 <ℤ c) e h in absurd (omega (arith, ints, z))
on_side_nonzero Lower b h e = let z : pos 0 <ℤ pos 0 = subst (λ (c : ℤ). c <ℤ pos 0) e h in absurd (omega (arith, ints, z))

-- the tightest of the bounds of a side before an index
pub record IsBest (side : Side) (bounds : List Bound) (i : ℕ) (t : Bound) : Type 0 where
  pub position : ℕ
  pub position_before : position < i
  pub at_position : (d : Bound) → get_or bounds position d ≡ t
  pub on_side : IsOn side t
  pub as_tight : (k : ℕ) (d : Bound) → k < i → IsOn side (get_or bounds k d) → IsAsTight t (get_or bounds k d)

abbrev pub IsBestBefore : Side → List Bound → ℕ → Option Bound → Type 0
IsBestBefore side bounds i best =
    MatchOption best ((k : ℕ) (d : Bound) → k < i → ¬ (IsOn side (get_or bounds k d))) (λ t. IsBest side bounds i t)

pub best_with : (side : Side) (bounds : List Bound) (i : ℕ) (best : Option Bound) (now t : Bound) → ((d : Bound) → get_or bounds i d ≡ now) → IsBestBefore side bounds i best → (best ≡ Some t) ⊎ (t ≡ now) → IsOn side t → IfSome best (IsAsTight t) → IsAsTight t now → IsBestBefore side bounds (i + 1) (Some t)
best_with side bounds i None now t at before (inl e) on old new = absurd (cc)
best_with side bounds i None now t at before (inr e) on old new = record {
  position = i;
  position_before = omega arith;
  at_position = λ d. at d ∙ sym e;
  on_side = on;
  as_tight = λ k d h. below_more (λ (k : ℕ). (d : Bound) → IsOn side (get_or bounds k d) → IsAsTight t (get_or bounds k d)) i (λ k l d o. absurd (before k d l o)) (λ d o. subst (λ (b : Bound). IsAsTight t b) (sym (at d)) new) k h d;
}
best_with side bounds i (Some b) now t at before one on old new = record {
  position = elim one [ inl e ↦ before.position | inr e ↦ i ];
  position_before = elim one as (λ o. (elim o as (λ _. ℕ) [ inl e ↦ before.position | inr e ↦ i ]) < i + 1) [ inl e ↦ omega (arith, before.position_before) | inr e ↦ omega arith ];
  at_position = elim one as (λ o. (d : Bound) → get_or bounds (elim o as (λ _. ℕ) [ inl e ↦ before.position | inr e ↦ i ]) d ≡ t) [ inl e ↦ (λ d. before.at_position d ∙ some_same e) | inr e ↦ (λ d. at d ∙ sym e) ];
  on_side = on;
  as_tight = λ k d h. below_more (λ (k : ℕ). (d : Bound) → IsOn side (get_or bounds k d) → IsAsTight t (get_or bounds k d)) i (λ k l d o. IsAsTight_trans t b (get_or bounds k d) (on_side_nonzero side b before.on_side) old (before.as_tight k d l o)) (λ d o. subst (λ (b : Bound). IsAsTight t b) (sym (at d)) new) k h d;
}
  where
    some_same : {x y : Bound} → Some x ≡ Some y → x ≡ y
    some_same e = cc

pub best_without : (side : Side) (bounds : List Bound) (i : ℕ) (best : Option Bound) (now : Bound) → ((d : Bound) → get_or bounds i d ≡ now) → IsBestBefore side bounds i best → ¬ (IsOn side now) → IsBestBefore side bounds (i + 1) best
best_without side bounds i None now at before off =
    λ k d h. below_more (λ (k : ℕ). (d : Bound) → ¬ (IsOn side (get_or bounds k d))) i (λ k l d. before k d l) (λ d o. off (subst (λ (b : Bound). IsOn side b) (at d) o)) k h d
best_without side bounds i (Some b) now at before off = record {
  position = before.position;
  position_before = omega (arith, before.position_before);
  at_position = before.at_position;
  on_side = before.on_side;
  as_tight = λ k d h. below_more (λ (k : ℕ). (d : Bound) → IsOn side (get_or bounds k d) → IsAsTight b (get_or bounds k d)) i (λ k l d. before.as_tight k d l) (λ d o. absurd (off (subst (λ (b : Bound). IsOn side b) (at d) o))) k h d;
}

-- an integer up to the quotient t/m rounded down, times n, is at most b, where t/m is at most b/n
met_below_floor : (m n t b f y : ℤ) → pos 0 <ℤ m → pos 0 <ℤ n → (t *ℤ n) ≤ℤ (b *ℤ m) → (m *ℤ f) ≤ℤ t → y ≤ℤ f → (n *ℤ y) ≤ℤ b
met_below_floor m n t b f y hm hn tight below le =
    let one = mul_le m y f (omega (arith, ints, hm)) le in
    let two = mul_le n (m *ℤ y) t (omega (arith, ints, hn)) (omega (arith, ints, one, below)) in
    let e1 = mul_swap n m y in
    let e2 = *ℤ_comm n t in
    let e3 = *ℤ_comm b m in
    le_of_mul m (n *ℤ y) b hm (omega (arith, ints, two, e1, e2, e3, tight))

-- an integer whose product with m is at most t is at most the quotient t/m rounded down
floor_above : (m t f y : ℤ) → pos 0 <ℤ m → (m *ℤ y) ≤ℤ t → t <ℤ (m *ℤ (f +ℤ pos 1)) → y ≤ℤ f
floor_above m t f y h le above = by_lt_z f y (λ lt. absurd (let k = mul_le m (f +ℤ pos 1) y (omega (arith, ints, h)) (omega (arith, ints, lt)) in omega (arith, ints, k, le, above))) (λ k. k)

size_above : (c : ℤ) → pos 0 <ℤ c → pos (unsigned_abs c) ≡ c
size_above (pos n) h = refl
size_above (negsuc n) h = absurd (omega (arith, ints, h))

size_below : (c : ℤ) → c <ℤ pos 0 → pos (unsigned_abs c) ≡ neg_ℤ c
size_below (pos n) h = absurd (omega (arith, ints, h))
size_below (negsuc n) h = refl

times_one : (a : ℤ) → a *ℤ pos 1 ≡ a
times_one a = *ℤ_comm a (pos 1) ∙ one_mul a

pub upper_met : (u b : Bound) (f z : ℤ) → IsOn Upper u → IsOn Upper b → IsAsTight u b → IsFloor u.bound (unsigned_abs u.coefficient) f → z ≤ℤ f → IsMetAt z (pos 1) b
upper_met u b f z hu hb tight floor le =
    let t = rw (size_above b.coefficient hb, size_above u.coefficient hu) at tight in
    let g = rw (size_above u.coefficient hu) at floor.below in
    rw (times_one b.bound) (met_below_floor u.coefficient b.coefficient u.bound b.bound f z hu hb t g le)

pub lower_met : (l b : Bound) (f z : ℤ) → IsOn Lower l → IsOn Lower b → IsAsTight l b → IsFloor l.bound (unsigned_abs l.coefficient) f → neg_ℤ f ≤ℤ z → IsMetAt z (pos 1) b
lower_met l b f z hl hb tight floor le =
    let t = rw (size_below b.coefficient hb, size_below l.coefficient hl) at tight in
    let g = rw (size_below l.coefficient hl) at floor.below in
    let p = met_below_floor (neg_ℤ l.coefficient) (neg_ℤ b.coefficient) l.bound b.bound f (neg_ℤ z) (omega (arith, ints, hl)) (omega (arith, ints, hb)) t g (omega (arith, ints, le)) in
    let e1 = mul_neg (neg_ℤ b.coefficient) z in
    let e2 = *ℤ_comm (neg_ℤ b.coefficient) z in
    let e3 = mul_neg z b.coefficient in
    let e4 = *ℤ_comm z b.coefficient in
    rw (times_one b.bound) (omega (arith, ints, p, e1, e2, e3, e4))

pub upper_most : (u : Bound) (f z : ℤ) → IsOn Upper u → IsFloor u.bound (unsigned_abs u.coefficient) f → IsMetAt z (pos 1) u → z ≤ℤ f
upper_most u f z hu floor met =
    let g = rw (size_above u.coefficient hu) at floor.above in
    let m = rw (times_one u.bound) at met in
    floor_above u.coefficient u.bound f z hu m g

pub lower_least : (l : Bound) (f z : ℤ) → IsOn Lower l → IsFloor l.bound (unsigned_abs l.coefficient) f → IsMetAt z (pos 1) l → neg_ℤ f ≤ℤ z
lower_least l f z hl floor met =
    let g = rw (size_below l.coefficient hl) at floor.above in
    let m = rw (times_one l.bound) at met in
    let e1 = mul_neg (neg_ℤ l.coefficient) z in
    let e2 = *ℤ_comm (neg_ℤ l.coefficient) z in
    let e3 = mul_neg z l.coefficient in
    let e4 = *ℤ_comm z l.coefficient in
    let p = floor_above (neg_ℤ l.coefficient) l.bound f (neg_ℤ z) (omega (arith, ints, hl)) (omega (arith, ints, m, e1, e2, e3, e4)) g in
    omega (arith, ints, p)

-- the quotient of an upper bound meets each bound that is consistent with it
met_at_quotient : (u b : Bound) (p q : ℤ) → IsOn Upper u → pos 0 <ℤ q → p *ℤ u.coefficient ≡ u.bound *ℤ q → (b.coefficient *ℤ u.bound) ≤ℤ (u.coefficient *ℤ b.bound) → IsMetAt p q b
met_at_quotient u b p q hu hq value le =
    let one = mul_le q (b.coefficient *ℤ u.bound) (u.coefficient *ℤ b.bound) (omega (arith, ints, hq)) le in
    let e1 : u.coefficient *ℤ (b.coefficient *ℤ p) ≡ q *ℤ (b.coefficient *ℤ u.bound) =
    mul_swap u.coefficient b.coefficient p ∙ ap (λ (w : ℤ). b.coefficient *ℤ w) (*ℤ_comm u.coefficient p ∙ value ∙ *ℤ_comm u.bound q) ∙ mul_swap b.coefficient q u.bound in
    let e2 : u.coefficient *ℤ (b.bound *ℤ q) ≡ q *ℤ (u.coefficient *ℤ b.bound) =
    ap (λ (w : ℤ). u.coefficient *ℤ w) (*ℤ_comm b.bound q) ∙ mul_swap u.coefficient q b.bound in
    le_of_mul u.coefficient (b.coefficient *ℤ p) (b.bound *ℤ q) hu (omega (arith, ints, one, e1, e2))

pub side_of : (c : ℤ) → c ≢ pos 0 → (pos 0 <ℤ c) ⊎ (c <ℤ pos 0)
side_of (pos zero) h = absurd (h refl)
side_of (pos (suc n)) h = inl (omega (arith, ints))
side_of (negsuc n) h = inr (omega (arith, ints))

pub all_met_at_quotient : (bounds : List Bound) (u : Bound) (p q : ℤ) → AreNonzero bounds → AreConsistent bounds → IsTightest Upper bounds u → pos 0 <ℤ q → p *ℤ u.coefficient ≡ u.bound *ℤ q → All (IsMetAt p q) bounds
all_met_at_quotient bounds u p q nonzero consistent best hq value = λ k d h.
    let b = get_or bounds k d in
    elim (side_of b.coefficient (nonzero k d h)) [
      | inl above ↦
          let t = rw (size_above b.coefficient above, size_above u.coefficient best.on_side) at (best.as_tight k d h above) in
          let e1 = *ℤ_comm b.coefficient u.bound in
          let e2 = *ℤ_comm u.coefficient b.bound in
          met_at_quotient u b p q best.on_side hq value (omega (arith, ints, t, e1, e2))
      | inr below ↦
          let c = consistent best.member.0 u best.member.1 (subst (λ (x : Bound). IsOn Upper x) (sym best.member.2) best.on_side) k d h below in
          met_at_quotient u b p q best.on_side hq value (subst (λ (x : Bound). (b.coefficient *ℤ x.bound) ≤ℤ (x.coefficient *ℤ b.bound)) best.member.2 c)
    ]

pub all_met : (bounds : List Bound) (z : ℤ) → AreNonzero bounds → All (λ b. IsOn Upper b → IsMetAt z (pos 1) b) bounds → All (λ b. IsOn Lower b → IsMetAt z (pos 1) b) bounds → All (IsMetAt z (pos 1)) bounds
all_met bounds z nonzero upper lower = λ k d h. elim (side_of (get_or bounds k d).coefficient (nonzero k d h)) [ inl above ↦ upper k d h above | inr below ↦ lower k d h below ]

pub lowers_met : (bounds : List Bound) (l : Bound) (f z : ℤ) → IsTightest Lower bounds l → IsFloor l.bound (unsigned_abs l.coefficient) f → neg_ℤ f ≤ℤ z → All (λ b. IsOn Lower b → IsMetAt z (pos 1) b) bounds
lowers_met bounds l f z best floor le = λ k d h on. lower_met l (get_or bounds k d) f z best.on_side on (best.as_tight k d h on) floor le

pub lowers_least : (bounds : List Bound) (l : Bound) (f z : ℤ) → IsTightest Lower bounds l → IsFloor l.bound (unsigned_abs l.coefficient) f → All (λ b. IsOn Lower b → IsMetAt z (pos 1) b) bounds → neg_ℤ f ≤ℤ z
lowers_least bounds l f z best floor met =
    lower_least l f z best.on_side floor (subst (λ (b : Bound). IsMetAt z (pos 1) b) best.member.2 (met best.member.0 l best.member.1 (subst (λ (b : Bound). IsOn Lower b) (sym best.member.2) best.on_side)))

pub uppers_met : (bounds : List Bound) (u : Bound) (f z : ℤ) → IsTightest Upper bounds u → IsFloor u.bound (unsigned_abs u.coefficient) f → z ≤ℤ f → All (λ b. IsOn Upper b → IsMetAt z (pos 1) b) bounds
uppers_met bounds u f z best floor le = λ k d h on. upper_met u (get_or bounds k d) f z best.on_side on (best.as_tight k d h on) floor le

pub uppers_most : (bounds : List Bound) (u : Bound) (f z : ℤ) → IsTightest Upper bounds u → IsFloor u.bound (unsigned_abs u.coefficient) f → All (IsMetAt z (pos 1)) bounds → z ≤ℤ f
uppers_most bounds u f z best floor met =
    upper_most u f z best.on_side floor (subst (λ (b : Bound). IsMetAt z (pos 1) b) best.member.2 (met best.member.0 u best.member.1))

-- ---- integers, and those of 128 bits

-- an integer is in 128 bits, or far from 0
fits_or_far : (z : ℤ) → FitsSigned w128 z ⊎ (2 ^ 127 ≤ unsigned_abs z)
fits_or_far (pos n) = elim (below_or_past n (2 ^ 127)) [ inl l ↦ inl (omega (arith, ints, l)) | inr l ↦ inr l ]
fits_or_far (negsuc n) = elim (below_or_past n (2 ^ 127)) [ inl l ↦ inl (omega (arith, ints, l)) | inr l ↦ inr (omega (arith, l)) ]

size_within : (z : ℤ) → FitsSigned w128 z → unsigned_abs z ≤ 2 ^ 127
size_within (pos n) f = omega (arith, ints, f)
size_within (negsuc n) f = omega (arith, ints, f)

pub nearer_above : (a z : ℤ) → pos 0 <ℤ a → a ≤ℤ z → unsigned_abs a ≤ unsigned_abs z
nearer_above (pos a) (pos z) h l = omega (arith, ints, l)
nearer_above (pos a) (negsuc z) h l = absurd (omega (arith, ints, h, l))
nearer_above (negsuc a) z h l = absurd (omega (arith, ints, h))

pub nearer_below : (a z : ℤ) → a <ℤ pos 0 → z ≤ℤ a → unsigned_abs a ≤ unsigned_abs z
nearer_below (pos a) z h l = absurd (omega (arith, ints, h))
nearer_below (negsuc a) (pos z) h l = absurd (omega (arith, ints, l))
nearer_below (negsuc a) (negsuc z) h l = omega (arith, ints, l)

-- the maximum of an integer and 0
pub nearer_max : (b : Bool) (a m z : ℤ) → m ≡ cond b a (pos 0) → pos 0 ≤ℤ m → a ≤ℤ z → unsigned_abs m ≤ unsigned_abs z
nearer_max true (pos a) m (pos z) e h l = subst (λ (x : ℤ). unsigned_abs x ≤ z) (sym e) (omega (arith, ints, l))
nearer_max true (pos a) m (negsuc z) e h l = absurd (omega (arith, ints, l))
nearer_max true (negsuc a) m z e h l = absurd (let n : pos 0 ≤ℤ negsuc a = subst (λ (x : ℤ). pos 0 ≤ℤ x) e h in omega (arith, ints, n))
nearer_max false a m z e h l = subst (λ (x : ℤ). unsigned_abs x ≤ unsigned_abs z) (sym e) (omega arith)

-- the nearest to 0 among the integers of 128 bits that meet the bounds is the nearest of all integers
pub whole_is_between : (bounds : List Bound) (value : Fraction) → value.denominator ≡ pos 1 → FitsSigned w128 value.numerator → AreMet bounds value.numerator → ((z : ℤ) → FitsSigned w128 z → AreMet bounds z → unsigned_abs value.numerator ≤ unsigned_abs z) → IsBetween bounds value
whole_is_between bounds value one fits met near = whole one met (λ z m. elim (fits_or_far z) [
  | inl f ↦ near z f m
  | inr far ↦ (let s = size_within value.numerator fits in omega (arith, s, far))
])

lower_up : (b : Bound) (y z : ℤ) → y ≤ℤ z → IsOn Lower b → IsMetAt y (pos 1) b → IsMetAt z (pos 1) b
lower_up b y z le on m =
    let k = mul_le (neg_ℤ b.coefficient) y z (omega (arith, ints, on)) le in
    let e1 = neg_mul b.coefficient y in
    let e2 = neg_mul b.coefficient z in
    omega (arith, ints, k, e1, e2, m)

-- no integer meets the bounds where none of 128 bits does, since the greatest that meets the upper ones is less than
-- the least that meets the lower ones
pub none_met : (bounds : List Bound) (u : Bound) (f least : ℤ) → FitsSigned w128 f → IsTightest Upper bounds u → IsFloor u.bound (unsigned_abs u.coefficient) f → f <ℤ least → ((z : ℤ) → FitsSigned w128 z → All (λ b. IsOn Lower b → IsMetAt z (pos 1) b) bounds → least ≤ℤ z) → (z : ℤ) → AreMet bounds z → ⊥
none_met bounds u f least fits best floor less lowest z met = by_size z met (uppers_most bounds u f z best floor met) (fits_or_far z)
  where
    lowers : (y z : ℤ) → y ≤ℤ z → AreMet bounds y → All (λ b. IsOn Lower b → IsMetAt z (pos 1) b) bounds
    lowers y z le m k d h on = lower_up (get_or bounds k d) y z le on (m k d h)

    by_size : (z : ℤ) → AreMet bounds z → z ≤ℤ f → FitsSigned w128 z ⊎ (2 ^ 127 ≤ unsigned_abs z) → ⊥
    by_size z m le (inl g) = let l = lowest z g (lowers z z (omega (arith, ints)) m) in omega (arith, ints, l, le, less)
    by_size (pos n) m le (inr far) = omega (arith, ints, far, le, fits)
    by_size (negsuc n) m le (inr far) =
        let g : FitsSigned w128 (negsuc (2 ^ 127 - 1)) = omega (arith, ints) in
        let down : negsuc n ≤ℤ negsuc (2 ^ 127 - 1) = omega (arith, ints, far) in
        let l = lowest (negsuc (2 ^ 127 - 1)) g (lowers (negsuc n) (negsuc (2 ^ 127 - 1)) down m) in
        omega (arith, ints, l, less, fits)

-- a lower bound whose numbers fit is met by the greatest integer of 128 bits
pub reached : (b : Bound) → FitsBound b → IsReached b
reached b f on =
    let k = mul_le (pos (2 ^ 127 - 1)) b.coefficient (negsuc 0) (omega (arith, ints)) (omega (arith, ints, on)) in
    let e = *ℤ_comm b.coefficient (pos (2 ^ 127 - 1)) in
    let one = times_one b.bound in
    let above = f.1.0 in
    omega (arith, ints, k, e, one, above)

-- quotients by the greatest common divisor have no common divisor but 1
pub lowest_terms : (g : ℕ) (a b n d : ℤ) → 0 < g → pos g *ℤ a ≡ n → pos g *ℤ b ≡ d → IsGcd (unsigned_abs n) (unsigned_abs d) g → IsGcd (unsigned_abs a) (unsigned_abs b) 1
lowest_terms g a b n d p e f h = (
  one-dvd (unsigned_abs a),
  one-dvd (unsigned_abs b),
  λ k x y.
      let s : g * unsigned_abs a ≡ unsigned_abs n = sym (unsigned_abs-mul (pos g) a) ∙ ap unsigned_abs e in
      let t : g * unsigned_abs b ≡ unsigned_abs d = sym (unsigned_abs-mul (pos g) b) ∙ ap unsigned_abs f in
      let u : g * k ∣ unsigned_abs n = subst (λ (m : ℕ). g * k ∣ m) s (mul-dvd-mul_left k g x) in
      let v : g * k ∣ unsigned_abs d = subst (λ (m : ℕ). g * k ∣ m) t (mul-dvd-mul_left k g y) in
      dvd_of_mul-dvd-mul_left k p (subst (λ (m : ℕ). g * k ∣ m) (let o : g ≡ g * 1 = omega arith in o) (h.2 (g * k) u v)),
)
