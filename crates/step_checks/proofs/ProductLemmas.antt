-- Products of two whole numbers, compared by sign and absolute value.
use Rattle.std.proofs.Common.{◌≡◌, ℕ, zero, suc, ◌*◌, ◌<◌, ◌≤◌, Bool, true, false, not, pos, negsuc, ℤ, ◌*ℤ◌, ◌≤ℤ◌, ◌<ℤ◌, refl, sym, ap, ◌∙◌, arith, inl, inr}
use Rattle.std.specs.Prelude.{unsigned_abs}
use Rattle.std.specs.Bool.{Decides}
use Rattle.std.proofs.lemmas.Bool.{false≢true}
use Rattle.std.proofs.lemmas.Int.{ints, by_lt_z, unsigned_abs-mul}
use Rattle.linear_arith.proofs.ListLemmas.{below_or_past}

-- the negation of a check that refutes the claim if true, and shows it if false
pub denied : (t : Bool) (P Q : Type 0) → Decides t P → (Q → P → ⊥) → ((P → ⊥) → Q) → Decides (not t) Q
denied true P Q d f g = (λ t. absurd (false≢true t), λ q. absurd (f q (d.0 refl)))
denied false P Q d f g = (λ t. g (λ p. false≢true (d.1 p)), λ q. refl)

less_or_not : (m n : ℕ) → (m < n → ⊥) → n ≤ m
less_or_not m n h = elim (below_or_past m n) [ inl l ↦ absurd (h l) | inr l ↦ l ]

above_by_size : (x y : ℤ) → pos 0 ≤ℤ x → pos 0 ≤ℤ y → unsigned_abs x ≤ unsigned_abs y → x ≤ℤ y
above_by_size (pos m) (pos n) h k l = omega (arith, ints, l)
above_by_size (pos m) (negsuc n) h k l = absurd (omega (arith, ints, k))
above_by_size (negsuc m) y h k l = absurd (omega (arith, ints, h))

size_above : (x y : ℤ) → pos 0 ≤ℤ x → x ≤ℤ y → unsigned_abs x ≤ unsigned_abs y
size_above (pos m) (pos n) h l = omega (arith, ints, l)
size_above (pos m) (negsuc n) h l = absurd (omega (arith, ints, l))
size_above (negsuc m) y h l = absurd (omega (arith, ints, h))

below_by_size : (x y : ℤ) → x <ℤ pos 0 → y <ℤ pos 0 → unsigned_abs y ≤ unsigned_abs x → x ≤ℤ y
below_by_size (negsuc m) (negsuc n) h k l = omega (arith, ints, l)
below_by_size (negsuc m) (pos n) h k l = absurd (omega (arith, ints, k))
below_by_size (pos m) y h k l = absurd (omega (arith, ints, h))

size_below : (x y : ℤ) → y <ℤ pos 0 → x ≤ℤ y → unsigned_abs y ≤ unsigned_abs x
size_below (negsuc m) (negsuc n) k l = omega (arith, ints, l)
size_below x (pos n) k l = absurd (omega (arith, ints, k))
size_below (pos m) (negsuc n) k l = absurd (omega (arith, ints, l))

size_of_product : (a b : ℤ) (m n : ℕ) → m ≡ unsigned_abs a → n ≡ unsigned_abs b → m * n ≡ unsigned_abs (a *ℤ b)
size_of_product a b m n e f = ap (λ (k : ℕ). k * n) e ∙ ap (λ (k : ℕ). unsigned_abs a * k) f ∙ sym (unsigned_abs-mul a b)

pub at_most_above : (a b c d : ℤ) (k l m n : ℕ) (t : Bool) → k ≡ unsigned_abs a → l ≡ unsigned_abs b → m ≡ unsigned_abs c → n ≡ unsigned_abs d → pos 0 ≤ℤ (a *ℤ b) → pos 0 ≤ℤ (c *ℤ d) → Decides t (m * n < k * l) → Decides (not t) ((a *ℤ b) ≤ℤ (c *ℤ d))
at_most_above a b c d k l m n t ea eb ec ed h g decides =
    let x = size_of_product a b k l ea eb in
    let y = size_of_product c d m n ec ed in
    denied t (m * n < k * l) ((a *ℤ b) ≤ℤ (c *ℤ d)) decides (λ le less. let s = size_above (a *ℤ b) (c *ℤ d) h le in omega (arith, x, y, s, less)) (λ no. above_by_size (a *ℤ b) (c *ℤ d) h g (let s = less_or_not (m * n) (k * l) no in omega (arith, x, y, s)))

pub at_most_below : (a b c d : ℤ) (k l m n : ℕ) (t : Bool) → k ≡ unsigned_abs a → l ≡ unsigned_abs b → m ≡ unsigned_abs c → n ≡ unsigned_abs d → (a *ℤ b) <ℤ pos 0 → (c *ℤ d) <ℤ pos 0 → Decides t (k * l < m * n) → Decides (not t) ((a *ℤ b) ≤ℤ (c *ℤ d))
at_most_below a b c d k l m n t ea eb ec ed h g decides =
    let x = size_of_product a b k l ea eb in
    let y = size_of_product c d m n ec ed in
    denied t (k * l < m * n) ((a *ℤ b) ≤ℤ (c *ℤ d)) decides (λ le less. let s = size_below (a *ℤ b) (c *ℤ d) g le in omega (arith, x, y, s, less)) (λ no. below_by_size (a *ℤ b) (c *ℤ d) h g (let s = less_or_not (k * l) (m * n) no in omega (arith, x, y, s)))

-- the sign of a product
pub negative_first : (a b : ℤ) → a <ℤ pos 0 → pos 0 <ℤ b → (a *ℤ b) <ℤ pos 0
negative_first (pos m) b h k = absurd (omega (arith, ints, h))
negative_first (negsuc m) (pos n) h k = omega (arith, ints, k)
negative_first (negsuc m) (negsuc n) h k = absurd (omega (arith, ints, k))

pub second_above : (a b : ℤ) → a <ℤ pos 0 → (a *ℤ b) <ℤ pos 0 → pos 0 <ℤ b
second_above (pos m) b h k = absurd (omega (arith, ints, h))
second_above (negsuc m) (pos zero) h k = absurd (omega (arith, ints, k))
second_above (negsuc m) (pos (suc n)) h k = omega (arith, ints)
second_above (negsuc m) (negsuc n) h k = absurd (omega (arith, ints, k))

pub first_above : (a b : ℤ) → pos 0 ≤ℤ a → (a *ℤ b) <ℤ pos 0 → pos 0 <ℤ a
first_above (pos m) (pos n) h k = absurd (omega (arith, ints, k))
first_above (pos zero) (negsuc n) h k = absurd (omega (arith, ints, k))
first_above (pos (suc m)) (negsuc n) h k = omega (arith, ints)
first_above (negsuc m) b h k = absurd (omega (arith, ints, h))

pub second_below : (a b : ℤ) → pos 0 ≤ℤ a → (a *ℤ b) <ℤ pos 0 → b <ℤ pos 0
second_below (pos m) (pos n) h k = absurd (omega (arith, ints, k))
second_below (pos m) (negsuc n) h k = omega (arith, ints)
second_below (negsuc m) b h k = absurd (omega (arith, ints, h))

-- the result of a check of a sign
pub negative_of : (z : ℤ) → Decides true (z <ℤ pos 0) → z <ℤ pos 0
negative_of z d = d.0 refl

pub not_negative_of : (z : ℤ) → Decides false (z <ℤ pos 0) → pos 0 ≤ℤ z
not_negative_of z d = by_lt_z z (pos 0) (λ l. absurd (false≢true (d.1 l))) (λ h. h)

pub at_most_mixed : (x y : ℤ) → x <ℤ pos 0 → pos 0 ≤ℤ y → x ≤ℤ y
at_most_mixed x y h k = omega (arith, ints, h, k)

pub not_at_most_mixed : (x y : ℤ) → pos 0 ≤ℤ x → y <ℤ pos 0 → x ≤ℤ y → ⊥
not_at_most_mixed x y h k l = omega (arith, ints, h, k, l)
