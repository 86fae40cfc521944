-- The digits of a number, as a loop writes them, the last one first.
use Rattle.std.proofs.Common.{◌≡◌, ℕ, zero, suc, ◌+◌, ◌-◌, ◌/◌, ◌%◌, ◌<◌, ◌≤◌, Bool, true, false, cond, List, ◌∷◌, length, drop, refl, ap, ◌∙◌, arith, drop_of_length-le}
use Rattle.std.proofs.Math.ListN.{set}
use Rattle.std.proofs.Math.Dec.{eqb}
use Rattle.std.proofs.lemmas.Bool.{ne_eqb, eq-eqb}
use Rattle.std.proofs.lemmas.Grind.{drop-set_at}
use Rattle.std.specs.Fmt.{digit_glyph, digits, digits_onto}

-- the last digits of n, at most i of them, and then those already written
unfoldable pub hexadecimal_onto : ℕ → ℕ → List ℕ → List ℕ
hexadecimal_onto i n written = digits_onto i 16 false n written

-- before the loop nothing is written
pub hexadecimal_onto-start : (n : ℕ) (out : List ℕ) → length out ≡ 64 → hexadecimal_onto 64 n (drop 64 out) ≡ digits 16 false n
unfolding hexadecimal_onto digits
hexadecimal_onto-start n out e = ap (digits_onto 64 16 false n) (drop_of_length-le out {i = 64} (omega arith))

module _ (n : ℕ) (written : List ℕ) where
  digits_onto-suc : (k : ℕ) (t : Bool) → eqb (n / 16) 0 ≡ t → digits_onto (suc k) 16 false n written ≡ cond t (digit_glyph false (n % 16) ∷ written) (digits_onto k 16 false (n / 16) (digit_glyph false (n % 16) ∷ written))
  digits_onto-suc k t e = ap (λ (b : Bool). cond b (digit_glyph false (n % 16) ∷ written) (digits_onto k 16 false (n / 16) (digit_glyph false (n % 16) ∷ written))) e

  -- room for no digit
  pub hexadecimal_onto-none : (i : ℕ) → i ≤ 0 → hexadecimal_onto i n written ≡ written
  unfolding hexadecimal_onto
  hexadecimal_onto-none zero h = refl
  hexadecimal_onto-none (suc k) h = absurd (omega arith)

  -- the first digit
  pub hexadecimal_onto-first : (i : ℕ) → 0 < i → n / 16 ≡ 0 → hexadecimal_onto i n written ≡ digit_glyph false (n % 16) ∷ written
  unfolding hexadecimal_onto
  hexadecimal_onto-first zero h e = absurd (omega arith)
  hexadecimal_onto-first (suc k) h e = digits_onto-suc k true (eq-eqb _ 0 e)

  -- a digit with more before it
  pub hexadecimal_onto-more : (i : ℕ) → 0 < i → (n / 16 ≡ 0 → ⊥) → hexadecimal_onto i n written ≡ hexadecimal_onto (i - 1) (n / 16) (digit_glyph false (n % 16) ∷ written)
  unfolding hexadecimal_onto
  hexadecimal_onto-more zero h e = absurd (omega arith)
  hexadecimal_onto-more (suc k) h e = digits_onto-suc k false (ne_eqb _ 0 e) ∙ ap (λ (j : ℕ). digits_onto j 16 false (n / 16) (digit_glyph false (n % 16) ∷ written)) {x = k} {y = suc k - 1} (omega arith)

-- one more digit is written before the others
pub drop-set_before : (out : List ℕ) (i digit glyph : ℕ) → 0 < i → i ≤ length out → digit ≡ glyph → drop (i - 1) (set out (i - 1) digit) ≡ glyph ∷ drop i out
drop-set_before out i digit glyph h k e = drop-set_at out (i - 1) (i - 1) digit refl (omega arith) ∙ ap (λ (j : ℕ). digit ∷ drop j out) {x = i - 1 + 1} {y = i} (omega arith) ∙ ap (λ (d : ℕ). d ∷ drop i out) e
