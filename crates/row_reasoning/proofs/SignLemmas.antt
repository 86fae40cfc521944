-- Products with signs.
use Rattle.std.proofs.Common.{◌≡◌, zero, suc, ℤ, pos, negsuc, ◌-ℤ◌, ◌*ℤ◌, Bool, true, false, refl, sym, ap, ◌∙◌, arith}
use Rattle.std.proofs.lemmas.Int.{ints}
use lib.IntN.{neg_ℤ, *ℤ-zero, *ℤ-negsuc, *ℤ_comm}
use Rattle.row_reasoning.specs.Sums.{signed}

opposite_is : (z : ℤ) → pos 0 -ℤ z ≡ neg_ℤ z
opposite_is (pos zero) = omega (arith, ints)
opposite_is (pos (suc n)) = omega (arith, ints)
opposite_is (negsuc n) = omega (arith, ints)

twice : (z : ℤ) → neg_ℤ (neg_ℤ z) ≡ z
twice (pos zero) = refl
twice (pos (suc n)) = refl
twice (negsuc n) = refl

times_neg : (m z : ℤ) → m *ℤ neg_ℤ z ≡ neg_ℤ (m *ℤ z)
times_neg m (pos zero) = *ℤ-zero m ∙ ap neg_ℤ (sym (*ℤ-zero m))
times_neg m (pos (suc n)) = *ℤ-negsuc m n
times_neg m (negsuc n) = sym (twice (m *ℤ pos (suc n))) ∙ ap neg_ℤ (sym (*ℤ-negsuc m n))

-- a number times the opposite of another one
pub times_opposite : (m z : ℤ) → m *ℤ (pos 0 -ℤ z) ≡ pos 0 -ℤ (m *ℤ z)
times_opposite m z = ap (λ x. m *ℤ x) (opposite_is z) ∙ times_neg m z ∙ sym (opposite_is (m *ℤ z))

opposite_times : (m z : ℤ) → (pos 0 -ℤ m) *ℤ z ≡ pos 0 -ℤ (m *ℤ z)
opposite_times m z = *ℤ_comm (pos 0 -ℤ m) z ∙ times_opposite z m ∙ ap (λ x. pos 0 -ℤ x) (*ℤ_comm z m)

back : (z : ℤ) → pos 0 -ℤ (pos 0 -ℤ z) ≡ z
back z = omega (arith, ints)

-- a product whose factors both have the sign
pub signed_product : (t : Bool) (m z : ℤ) → signed t m *ℤ signed t z ≡ m *ℤ z
signed_product false m z = refl
signed_product true m z = opposite_times m (pos 0 -ℤ z) ∙ ap (λ x. pos 0 -ℤ x) (times_opposite m z) ∙ back (m *ℤ z)
