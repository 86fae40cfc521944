-- Numbers of 128 bits, as they are compared and kept.
use Rattle.std.proofs.Common.{◌≡◌, ℤ, pos, sym, ap, ◌∙◌, arith, FitsSigned, to_z, of_z}
use Rattle.std.specs.Prelude.{◌≤ℤ◌}
use Rattle.std.specs.Int.{w128}
use Rattle.std.proofs.lemmas.Int.{ints, to_z-of_z}
use Rattle.linear_arith.specs.Fits.{Fits}

pub in_word : (z : ℤ) → Fits z → FitsSigned w128 z
in_word z f = let a = f.0 in let b = f.1 in omega (arith, ints, a, b)

pub word_is : (z : ℤ) → Fits z → to_z w128 (of_z w128 z) ≡ z
word_is z f = to_z-of_z w128 z (in_word z f)

pub zero_word : (z : ℤ) → Fits z → of_z w128 z ≡ 0 → z ≡ pos 0
zero_word z f e = sym (word_is z f) ∙ ap (to_z w128) e

pub zero_is : (z : ℤ) → z ≡ pos 0 → of_z w128 z ≡ 0
zero_is z e = ap (of_z w128) e

pub fits_positive : (z : ℤ) → pos 0 ≤ℤ z → FitsSigned w128 z → Fits z
fits_positive z p f = (omega (arith, ints, p, f), omega (arith, ints, p, f))
