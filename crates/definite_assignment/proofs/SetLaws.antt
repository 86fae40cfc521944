-- Bits of numbers as sets.
use Rattle.std.proofs.Common.{◌≡◌, ℕ, zero, suc, ◌-◌, ◌*◌, ◌%◌, ◌^◌, ◌<◌, min, max, true, false, not, ◌&&◌, ◌||◌, eqb, refl, sym, ap, ◌∙◌, subst, inl, inr, bit_and, bit_or, w64, arith, eq-eqb, ne_eqb, ltb, lt-ltb, le-ltb}
use Rattle.std.specs.Int.{bit_at, trailing_zeros}
use Rattle.std.proofs.lemmas.Nat.{one_shl}
use Rattle.std.proofs.lemmas.Bool.{cases_eq, cases_lt}
use Rattle.std.proofs.lemmas.Nat.Bits.{bit_at-zero, bit_at_ones, bit_at_ones_above, bit_at_and, bit_at_or, bit_at_not, bit_at-trailing_zeros, bit_at-lt, bit_at-pow_same, bit_at-pow_other}
use Rattle.definite_assignment.specs.declared.sets.LocalSet.{LocalSet}
use Rattle.definite_assignment.specs.Sets.{has}

min_bit : (a b : ℕ) → a < 2 → b < 2 → eqb (min a b) 1 ≡ (eqb a 1 && eqb b 1)
min_bit zero zero p q = refl
min_bit zero (suc zero) p q = refl
min_bit (suc zero) zero p q = refl
min_bit (suc zero) (suc zero) p q = refl
min_bit (suc (suc a)) b p q = absurd (omega arith)
min_bit zero (suc (suc b)) p q = absurd (omega arith)
min_bit (suc zero) (suc (suc b)) p q = absurd (omega arith)

max_bit : (a b : ℕ) → a < 2 → b < 2 → eqb (max a b) 1 ≡ (eqb a 1 || eqb b 1)
max_bit zero zero p q = refl
max_bit zero (suc zero) p q = refl
max_bit (suc zero) zero p q = refl
max_bit (suc zero) (suc zero) p q = refl
max_bit (suc (suc a)) b p q = absurd (omega arith)
max_bit zero (suc (suc b)) p q = absurd (omega arith)
max_bit (suc zero) (suc (suc b)) p q = absurd (omega arith)

not_bit : (a : ℕ) → a < 2 → eqb (1 - a) 1 ≡ not (eqb a 1)
not_bit zero p = refl
not_bit (suc zero) p = refl
not_bit (suc (suc a)) p = absurd (omega arith)

pub has_none : (i : ℕ) → has (record { bits = 0 }) i ≡ false
unfolding has
has_none i = ap (λ b. eqb b 1) (bit_at-zero i)

pub has_all : (i : ℕ) → i < 64 → has (record { bits = 18446744073709551615 }) i ≡ true
unfolding has
has_all i h = ap (λ b. eqb b 1) (bit_at_ones 64 i h)

pub has_one : (k i : ℕ) → k < 64 → has (record { bits = 1 * 2 ^ k % 18446744073709551616 }) i ≡ eqb k i
unfolding has
has_one k i h =
    elim (cases_eq k i) [
      | inl e ↦ ap (λ b. eqb (bit_at b i) 1) (one_shl k 64 h) ∙ ap (λ b. eqb b 1) (subst (λ x. bit_at (2 ^ k) x ≡ 1) e (bit_at-pow_same k)) ∙ sym (eq-eqb k i e)
      | inr n ↦ ap (λ b. eqb (bit_at b i) 1) (one_shl k 64 h) ∙ ap (λ b. eqb b 1) (bit_at-pow_other k i (λ e. n (sym e))) ∙ sym (ne_eqb k i n)
    ]

pub has_first : (k i : ℕ) → k < 64 → has (record { bits = 1 * 2 ^ k % 18446744073709551616 - 1 }) i ≡ ltb i k
unfolding has
has_first k i h =
    elim (cases_lt i k) [
      | inl b ↦ ap (λ b. eqb (bit_at (b - 1) i) 1) (one_shl k 64 h) ∙ ap (λ b. eqb b 1) (bit_at_ones k i b) ∙ sym (lt-ltb i k b)
      | inr a ↦ ap (λ b. eqb (bit_at (b - 1) i) 1) (one_shl k 64 h) ∙ ap (λ b. eqb b 1) (bit_at_ones_above k i a) ∙ sym (le-ltb i k a)
    ]

pub has_union : (a b : LocalSet) (i : ℕ) → has (record { bits = bit_or a.bits b.bits }) i ≡ (has a i || has b i)
unfolding has
has_union a b i = ap (λ x. eqb x 1) (bit_at_or a.bits b.bits i) ∙ max_bit (bit_at a.bits i) (bit_at b.bits i) (bit_at-lt a.bits i) (bit_at-lt b.bits i)

pub has_both : (a b : LocalSet) (i : ℕ) → has (record { bits = bit_and a.bits b.bits }) i ≡ (has a i && has b i)
unfolding has
has_both a b i = ap (λ x. eqb x 1) (bit_at_and a.bits b.bits i) ∙ min_bit (bit_at a.bits i) (bit_at b.bits i) (bit_at-lt a.bits i) (bit_at-lt b.bits i)

pub has_without : (a b : LocalSet) (i : ℕ) → b.bits < 2 ^ 64 → i < 64 → has (record { bits = bit_and a.bits (18446744073709551615 - b.bits) }) i ≡ (has a i && not (has b i))
unfolding has
has_without a b i fits h =
    let c = 18446744073709551615 - b.bits in
    let e : bit_at c i ≡ 1 - bit_at b.bits i = bit_at_not w64 b.bits i fits h in
    ap (λ x. eqb x 1) (bit_at_and a.bits c i) ∙ min_bit (bit_at a.bits i) (bit_at c i) (bit_at-lt a.bits i) (bit_at-lt c i)
    ∙ ap (λ x. eqb (bit_at a.bits i) 1 && eqb x 1) e ∙ ap (λ x. eqb (bit_at a.bits i) 1 && x) (not_bit (bit_at b.bits i) (bit_at-lt b.bits i))

pub none_at : (bits i : ℕ) → bits ≡ 0 → has (record { bits = bits }) i ≡ false
unfolding has
none_at bits i e = ap (λ b. eqb (bit_at b i) 1) e ∙ ap (λ b. eqb b 1) (bit_at-zero i)

pub some_at : (bits : ℕ) → 0 < bits → bits < 2 ^ 64 → (i : ℕ) × (i < 64) × (has (record { bits = bits }) i ≡ true)
unfolding has
some_at bits h fits = let low = bit_at-trailing_zeros w64 bits h fits in (trailing_zeros w64 bits, low.0, ap (λ b. eqb b 1) low.1)
