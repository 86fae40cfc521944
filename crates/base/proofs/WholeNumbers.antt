-- Products of whole numbers: the laws of a ring, and signs.
use Rattle.std.proofs.Common.{◌≡◌, ℕ, zero, suc, ◌+◌, ◌*◌, pos, negsuc, ℤ, ◌+ℤ◌, ◌-ℤ◌, ◌*ℤ◌, ◌≤ℤ◌, ◌<ℤ◌, neg_ℤ, refl, sym, ap, ◌∙◌, arith}
use Rattle.std.proofs.Math.IntN.{*ℤ_comm}
use Rattle.std.proofs.lemmas.Int.{ints}
use borrow.Author.Differences.{up, down, product_is, sum_is_lem, same_in, neg_is}

pub mul_assoc : (a b c : ℤ) → (a *ℤ b) *ℤ c ≡ a *ℤ (b *ℤ c)
mul_assoc a b c =
    let l = product_is (a *ℤ b) c in
    let r = product_is a (b *ℤ c) in
    let x = product_is a b in
    let y = product_is b c in
    let e : up ((a *ℤ b) *ℤ c) + down (a *ℤ (b *ℤ c)) ≡ up (a *ℤ (b *ℤ c)) + down ((a *ℤ b) *ℤ c) = rw (l.0, l.1, r.0, r.1, x.0, x.1, y.0, y.1) (omega arith) in
    same_in _ _ e

pub mul_add : (a b c : ℤ) → a *ℤ (b +ℤ c) ≡ (a *ℤ b) +ℤ (a *ℤ c)
mul_add a b c =
    let s = sum_is_lem b c in
    let t = sum_is_lem (a *ℤ b) (a *ℤ c) in
    let l = product_is a (b +ℤ c) in
    let x = product_is a b in
    let y = product_is a c in
    let p = ap (λ (n : ℕ). up a * n) s in
    let q = ap (λ (n : ℕ). down a * n) s in
    same_in _ _ (omega (arith, s, t, l, x, y, p, q))

pub add_mul : (a b c : ℤ) → (a +ℤ b) *ℤ c ≡ (a *ℤ c) +ℤ (b *ℤ c)
add_mul a b c = rw (*ℤ_comm (a +ℤ b) c, mul_add c a b, *ℤ_comm c a, *ℤ_comm c b) refl

pub mul_neg : (a b : ℤ) → a *ℤ neg_ℤ b ≡ neg_ℤ (a *ℤ b)
mul_neg a b =
    let l = product_is a (neg_ℤ b) in
    let x = product_is a b in
    let n = neg_is b in
    let m = neg_is (a *ℤ b) in
    let e : up (a *ℤ neg_ℤ b) + down (neg_ℤ (a *ℤ b)) ≡ up (neg_ℤ (a *ℤ b)) + down (a *ℤ neg_ℤ b) = rw (l.0, l.1, n.0, n.1, m.0, m.1, x.0, x.1) (omega arith) in
    same_in _ _ e

pub neg_mul : (a b : ℤ) → neg_ℤ a *ℤ b ≡ neg_ℤ (a *ℤ b)
neg_mul a b = *ℤ_comm (neg_ℤ a) b ∙ mul_neg b a ∙ ap neg_ℤ (*ℤ_comm b a)

pub mul_sub : (a b c : ℤ) → a *ℤ (b -ℤ c) ≡ (a *ℤ b) -ℤ (a *ℤ c)
mul_sub a b c = mul_add a b (neg_ℤ c) ∙ ap (λ (z : ℤ). (a *ℤ b) +ℤ z) (mul_neg a c)

pub sub_mul : (a b c : ℤ) → (a -ℤ b) *ℤ c ≡ (a *ℤ c) -ℤ (b *ℤ c)
sub_mul a b c = rw (*ℤ_comm (a -ℤ b) c, mul_sub c a b, *ℤ_comm c a, *ℤ_comm c b) refl

pub mul_swap : (a b c : ℤ) → a *ℤ (b *ℤ c) ≡ b *ℤ (a *ℤ c)
mul_swap a b c = sym (mul_assoc a b c) ∙ ap (λ (z : ℤ). z *ℤ c) (*ℤ_comm a b) ∙ mul_assoc b a c

pub one_mul : (a : ℤ) → pos 1 *ℤ a ≡ a
one_mul a = let p = product_is (pos 1) a in same_in _ _ (omega (arith, p))

pub mul_positive : (a b : ℤ) → pos 0 <ℤ a → pos 0 <ℤ b → pos 0 <ℤ (a *ℤ b)
mul_positive (pos zero) b h k = absurd (omega (arith, ints, h))
mul_positive (pos (suc a)) (pos zero) h k = absurd (omega (arith, ints, k))
mul_positive (pos (suc a)) (pos (suc b)) h k = omega (arith, ints)
mul_positive (pos (suc a)) (negsuc b) h k = absurd (omega (arith, ints, k))
mul_positive (negsuc a) b h k = absurd (omega (arith, ints, h))

pub mul_not_negative : (a b : ℤ) → pos 0 ≤ℤ a → pos 0 ≤ℤ b → pos 0 ≤ℤ (a *ℤ b)
mul_not_negative (pos a) (pos b) h k = omega (arith, ints)
mul_not_negative (pos a) (negsuc b) h k = absurd (omega (arith, ints, k))
mul_not_negative (negsuc a) b h k = absurd (omega (arith, ints, h))

pub mul_negative : (a b : ℤ) → pos 0 <ℤ a → b <ℤ pos 0 → (a *ℤ b) <ℤ pos 0
mul_negative a (pos b) h k = absurd (omega (arith, ints, k))
mul_negative (pos zero) (negsuc b) h k = absurd (omega (arith, ints, h))
mul_negative (pos (suc a)) (negsuc b) h k = omega (arith, ints)
mul_negative (negsuc a) (negsuc b) h k = absurd (omega (arith, ints, h))

pub positive_of_multiple : (a b : ℤ) → pos 0 <ℤ a → pos 0 <ℤ (a *ℤ b) → pos 0 <ℤ b
positive_of_multiple a (pos zero) h k = absurd (omega (arith, ints, k))
positive_of_multiple a (pos (suc b)) h k = omega (arith, ints)
positive_of_multiple (pos zero) (negsuc b) h k = absurd (omega (arith, ints, h))
positive_of_multiple (pos (suc a)) (negsuc b) h k = absurd (omega (arith, ints, k))
positive_of_multiple (negsuc a) (negsuc b) h k = absurd (omega (arith, ints, h))

pub negative_of_multiple : (a b : ℤ) → pos 0 <ℤ a → (a *ℤ b) <ℤ pos 0 → b <ℤ pos 0
negative_of_multiple a (negsuc b) h k = omega (arith, ints)
negative_of_multiple (pos a) (pos b) h k = absurd (omega (arith, ints, k))
negative_of_multiple (negsuc a) (pos b) h k = absurd (omega (arith, ints, h))

-- a positive factor keeps the sign
pub sign_of_multiple : (a b : ℤ) → pos 0 <ℤ a → pos 0 ≤ℤ (a *ℤ b) → pos 0 ≤ℤ b
sign_of_multiple a (pos b) h k = omega (arith, ints)
sign_of_multiple (pos zero) (negsuc b) h k = absurd (omega (arith, ints, h))
sign_of_multiple (pos (suc a)) (negsuc b) h k = absurd (omega (arith, ints, k))
sign_of_multiple (negsuc a) (negsuc b) h k = absurd (omega (arith, ints, h))

pub zero_of_multiple : (a b : ℤ) → pos 0 <ℤ a → a *ℤ b ≡ pos 0 → b ≡ pos 0
zero_of_multiple (pos zero) b h e = absurd (omega (arith, ints, h))
zero_of_multiple (pos (suc a)) (pos zero) h e = refl
zero_of_multiple (pos (suc a)) (pos (suc b)) h e = absurd (omega (arith, ints, e))
zero_of_multiple (pos (suc a)) (negsuc b) h e = absurd (omega (arith, ints, e))
zero_of_multiple (negsuc a) b h e = absurd (omega (arith, ints, h))

-- a factor of at least 0 keeps the order, and a positive one can be taken away
pub mul_le : (c a b : ℤ) → pos 0 ≤ℤ c → a ≤ℤ b → (c *ℤ a) ≤ℤ (c *ℤ b)
mul_le c a b h k =
    let d : pos 0 ≤ℤ (b -ℤ a) = omega (arith, ints, k) in
    let p = mul_not_negative c (b -ℤ a) h d in
    let e = mul_sub c b a in
    omega (arith, ints, p, e)

pub le_of_mul : (c a b : ℤ) → pos 0 <ℤ c → (c *ℤ a) ≤ℤ (c *ℤ b) → a ≤ℤ b
le_of_mul c a b h k =
    let e = mul_sub c b a in
    let d : pos 0 ≤ℤ (c *ℤ (b -ℤ a)) = omega (arith, ints, k, e) in
    let p = sign_of_multiple c (b -ℤ a) h d in
    omega (arith, ints, p)
