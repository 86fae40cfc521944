-- The order of two fractions by their integer parts and fractional parts.
use Rattle.std.proofs.Common.{◌≡◌, ℕ, zero, suc, ◌+◌, ◌*◌, ◌<◌, ap, arith, ◌↔◌}
use Rattle.std.proofs.Math.Nat.{mul-le-mul_left, mul-le-mul_right}

-- the smaller integer part is that of the smaller fraction
pub less_by_whole : (l a r b q w x y : ℕ) → l ≡ a * q + x → x < a → r ≡ b * w + y → y < b → q < w → l * b < a * r
less_by_whole l a r b q w x y e h f k lt =
    let one = mul-le-mul_right {m = x + 1} {n = a} b (omega arith) in
    let two = mul-le-mul_left {m = q + 1} {n = w} (a * b) (omega arith) in
    let left : l * b ≡ (a * q + x) * b = ap (λ (n : ℕ). n * b) e in
    let right : a * r ≡ a * (b * w + y) = ap (λ (n : ℕ). a * n) f in
    omega (arith, one, two, left, right)

-- with equal integer parts the fractional parts decide
pub decided_by_rests : (l a r b q x y : ℕ) → l ≡ a * q + x → r ≡ b * q + y → (l * b < a * r) ↔ (b * x < y * a)
decided_by_rests l a r b q x y e f =
    let left : l * b ≡ (a * q + x) * b = ap (λ (n : ℕ). n * b) e in
    let right : a * r ≡ a * (b * q + y) = ap (λ (n : ℕ). a * n) f in
    (λ h. omega (arith, left, right, h), λ h. omega (arith, left, right, h))

pub positive_product : (x y : ℕ) → 0 < x → 0 < y → 0 < x * y
positive_product zero y h k = absurd (omega (arith, h))
positive_product (suc x) zero h k = absurd (omega (arith, k))
positive_product (suc x) (suc y) h k = omega arith
