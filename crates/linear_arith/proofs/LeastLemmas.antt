-- Lists of numbers divided by their greatest common divisor.
use Rattle.std.proofs.Common.{Result, Ok, Err, ◌≡◌, ℕ, ◌<◌, List, length, pos, ℤ, refl, ap, subst, arith, inl, inr}
use Rattle.std.specs.Prelude.{unsigned_abs, IfOk}
use Rattle.std.specs.Int.{◌∣◌}
use Rattle.std.proofs.Math.IntN.{*ℤ-zero}
use Rattle.std.proofs.Math.Nat.{one-dvd}
use Rattle.std.proofs.lemmas.Int.{ints}
use Rattle.linear_arith.specs.Inequality.{Inequality}
use Rattle.linear_arith.specs.Combination.{number}
use Rattle.linear_arith.specs.Elimination.{as_row}
use Rattle.linear_arith.specs.Packed.{HasOne}
use Rattle.linear_arith.specs.Reduction.{DividesRow, IsReduced}
use Rattle.base.proofs.WholeNumbers.{one_mul}
use Rattle.linear_arith.proofs.ListLemmas.{below_or_past, get_or-past}

one_is_within : (ms : List ℤ) (k : ℕ) → number k ms ≡ pos 1 → k < length ms
one_is_within ms k e = elim (below_or_past k (length ms)) [
  | inl l ↦ l
  | inr p ↦ let z : number k ms ≡ pos 0 = get_or-past ms k (pos 0) p in absurd (omega (arith, ints, e, z))
]

-- what divides each number of a list with a 1 divides 1
divides_one : (ms : List ℤ) (has : HasOne ms) (d : ℕ) → DividesRow d (as_row ms) → d ∣ 1
divides_one ms has d h = subst (λ (z : ℤ). d ∣ unsigned_abs z) has.is_one (h.coefficients has.position (pos 0) (one_is_within ms has.position has.is_one))

-- such a list is in lowest terms
pub reduced_with_one : (ms : List ℤ) → HasOne ms → IsReduced (as_row ms) (as_row ms)
reduced_with_one ms has = record {
  divisor = 1;
  is_gcd = record {
    divides = record { coefficients = λ k d h. one-dvd _; bound = one-dvd _ };
    greatest = λ d h. divides_one ms has d h;
  };
  quotient = λ p. record { same_unknowns = refl; coefficients = λ u. one_mul (number u ms); bound = one_mul (pos 0) };
  zeros = λ e. absurd (omega (arith, e));
}

-- a constraint with bound 0, divided, has bound 0
pub reduced_list : (ms : List ℤ) (row : Inequality) → IsReduced (as_row ms) row → IsReduced (as_row ms) (as_row row.coefficients)
reduced_list ms row h = record {
  divisor = h.divisor;
  is_gcd = h.is_gcd;
  quotient = λ p. record { same_unknowns = (h.quotient p).same_unknowns; coefficients = (h.quotient p).coefficients; bound = *ℤ-zero (pos h.divisor) };
  zeros = λ z. ap (λ (r : Inequality). as_row r.coefficients) (h.zeros z);
}

-- a property of an answer that implies another one
pub ok_as : {A E : Type 0} (r : Result A E) (P Q : A → Type 0) → ((a : A) → P a → Q a) → IfOk r P → IfOk r Q
ok_as (Ok a) P Q f h = f a h
ok_as (Err e) P Q f h = tt
