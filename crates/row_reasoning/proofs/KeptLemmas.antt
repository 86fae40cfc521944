-- Arithmetic within 128 bits.
use Rattle.std.proofs.Common.{◌≡◌, ℕ, suc, ℤ, pos, negsuc, ◌+ℤ◌, ◌*ℤ◌, ◌^◌, ◌<◌, Bool, true, false, cond, nat_lt, Option, Some, None, refl, sym, ap, ◌∙◌, subst, arith}
use Rattle.std.specs.Option.{SomeIff}
use Rattle.std.proofs.lemmas.Bool.{ltb-true}
use Rattle.std.proofs.lemmas.Int.{ints}
use lib.IntN.{*ℤ-zero}
use Rattle.linear_arith.specs.Fits.{Fits}
use Rattle.linear_arith.specs.Combination.{IsAdded}
use Rattle.certificates.specs.Linear.{kept, kept_of}
use Rattle.certificates.proofs.Sums.{kept_exact}
use Rattle.certificates.proofs.KeptLemmas.{is_kept}
use Rattle.row_reasoning.specs.Sums.{signed, plus_multiple_of}

-- ---- kept numbers fit

fits_by : (n m : ℕ) (b : Bool) (z y : ℤ) → nat_lt n m ≡ b → (n < m → Fits z) → cond b (Some z) None ≡ Some y → Fits z
fits_by n m true z y t f e = f (ltb-true n m t)
fits_by n m false z y t f e = absurd (cc)

pub fits_kept : (z y : ℤ) → kept z ≡ Some y → Fits z
fits_kept (pos n) y e = fits_by n (2 ^ 127) (nat_lt n (2 ^ 127)) (pos n) y refl (λ l. (omega (arith, ints), omega (arith, ints, l))) e
fits_kept (negsuc n) y e = fits_by (suc n) (2 ^ 127) (nat_lt (suc n) (2 ^ 127)) (negsuc n) y refl (λ l. (omega (arith, ints, l), omega (arith, ints))) e

pub kept_itself : (z : ℤ) → Fits z → kept z ≡ Some z
kept_itself z f = sym (is_kept (Some z) z (f, refl))

pub kept_none : (z : ℤ) → (Fits z → ⊥) → kept z ≡ None
kept_none z f = sym (is_kept None z f)

pub zero_fits : Fits (pos 0)
zero_fits = (omega (arith, ints), omega (arith, ints))

-- a number that is not kept does not fit
pub leaving : (z : ℤ) → kept z ≡ None → Fits z → ⊥
leaving z e f = (let both : None ≡ Some z = sym e ∙ kept_itself z f in cc)

-- ---- with either sign

pub signed_fits : (n : Bool) (z : ℤ) → Fits z → Fits (signed n z)
signed_fits false z f = f
signed_fits true z f = (omega (arith, ints, f), omega (arith, ints, f))

pub fits_signed : (n : Bool) (z : ℤ) → Fits (signed n z) → Fits z
fits_signed false z f = f
fits_signed true z f = (omega (arith, ints, f), omega (arith, ints, f))

pub signed_kept : (n : Bool) (z y : ℤ) → y ≡ signed n z → Fits z → kept y ≡ Some (signed n z)
signed_kept n z y e f = ap kept e ∙ kept_itself (signed n z) (signed_fits n z f)

pub signed_leaving : (n : Bool) (z y : ℤ) → y ≡ signed n z → kept z ≡ None → kept y ≡ None
signed_leaving n z y e f = ap kept e ∙ kept_none (signed n z) (λ g. leaving z f (fits_signed n z g))

-- ---- a total and a multiple

pub plus_is : (total factor number : ℤ) (r : Option ℤ) → SomeIff r (IsAdded total (factor *ℤ number)) (total +ℤ (factor *ℤ number)) → r ≡ plus_multiple_of total factor number
plus_is total factor number (Some x) h =
    ap Some h.1
    ∙ sym (kept_itself (total +ℤ (factor *ℤ number)) h.0.1)
    ∙ ap (kept_of ◌+ℤ◌ (Some total)) (sym (kept_itself (factor *ℤ number) h.0.0))
plus_is total factor number None h = go (kept (factor *ℤ number)) refl
  where
    go : (o : Option ℤ) → kept (factor *ℤ number) ≡ o → None ≡ kept_of ◌+ℤ◌ (Some total) o
    go None e = refl
    go (Some q) e =
        let same : factor *ℤ number ≡ q = kept_exact (factor *ℤ number) q e in
        sym (kept_none (total +ℤ q) (λ f. h (fits_kept (factor *ℤ number) q e, subst (λ (z : ℤ). Fits (total +ℤ z)) (sym same) f)))

-- the result of a total and a multiple
pub record Came (total product sum : ℤ) : Type 0 where
  pub is : total +ℤ product ≡ sum
  pub fits : Fits sum

pub came : (total factor number sum : ℤ) → plus_multiple_of total factor number ≡ Some sum → Came total (factor *ℤ number) sum
came total factor number sum e = go (kept (factor *ℤ number)) refl e
  where
    go : (o : Option ℤ) → kept (factor *ℤ number) ≡ o → kept_of ◌+ℤ◌ (Some total) o ≡ Some sum → Came total (factor *ℤ number) sum
    go None f g = absurd (cc)
    go (Some q) f g =
        let same : factor *ℤ number ≡ q = kept_exact (factor *ℤ number) q f in
        let is : total +ℤ q ≡ sum = kept_exact (total +ℤ q) sum g in
        record {
          is = ap (λ z. total +ℤ z) same ∙ is;
          fits = subst (λ (z : ℤ). Fits z) is (fits_kept (total +ℤ q) sum g);
        }

-- if only the sum can overflow 128 bits, it does
pub sum_leaves : (total factor number : ℤ) → Fits (factor *ℤ number) → plus_multiple_of total factor number ≡ None → kept (total +ℤ (factor *ℤ number)) ≡ None
sum_leaves total factor number f e =
    ap (kept_of ◌+ℤ◌ (Some total)) (sym (kept_itself (factor *ℤ number) f)) ∙ e

-- if there is no total, the multiple overflows
pub multiple_leaves : (factor number : ℤ) → plus_multiple_of (pos 0) factor number ≡ None → kept (factor *ℤ number) ≡ None
multiple_leaves factor number e = kept_none (factor *ℤ number) (λ f. (let zero : pos 0 +ℤ (factor *ℤ number) ≡ factor *ℤ number = omega (arith, ints) in leaving (pos 0 +ℤ (factor *ℤ number)) (sum_leaves (pos 0) factor number f e) (subst (λ (z : ℤ). Fits z) (sym zero) f)))

-- a multiple of 0
pub nothing_more : (total factor : ℤ) → kept total ≡ Some total → plus_multiple_of total factor (pos 0) ≡ Some total
nothing_more total factor k =
    let zero : kept (factor *ℤ pos 0) ≡ Some (pos 0) = ap kept (*ℤ-zero factor) in
    let same : total +ℤ pos 0 ≡ total = omega (arith, ints) in
    ap (kept_of ◌+ℤ◌ (Some total)) zero ∙ ap kept same ∙ k
