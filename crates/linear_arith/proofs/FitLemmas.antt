-- Constraints whose numbers fit.
use Rattle.std.proofs.Common.{◌≡◌, ℕ, ◌<◌, List, length, get_or, pos, ℤ, sym, subst, arith, inl, inr}
use Rattle.std.specs.Prelude.{All}
use Rattle.std.proofs.lemmas.Int.{ints}
use Rattle.linear_arith.specs.Fits.{Fits, IsFitting}
use Rattle.linear_arith.specs.Inequality.{Inequality, coefficient}
use Rattle.linear_arith.proofs.ListLemmas.{get_or-past, below_or_past, get_or-any_default}

zero_fits : Fits (pos 0)
zero_fits = (omega (arith, ints), omega (arith, ints))

pub all_fitting : (numbers : List ℤ) → ((k : ℕ) → k < length numbers → Fits (get_or numbers k (pos 0))) → All Fits numbers
all_fitting numbers h k d l = subst (λ (z : ℤ). Fits z) (get_or-any_default numbers k (pos 0) d l) (h k l)

pub fitting_row : (row : Inequality) → All Fits row.coefficients → Fits row.bound → IsFitting row
fitting_row row all bound = (
  λ u. elim (below_or_past u (length row.coefficients)) [
    | inl l ↦ all u (pos 0) l
    | inr l ↦ subst (λ (z : ℤ). Fits z) (sym (get_or-past row.coefficients u (pos 0) l)) zero_fits
  ],
  bound,
)

pub fitting_numbers : (row : Inequality) → IsFitting row → All Fits row.coefficients
fitting_numbers row f = all_fitting row.coefficients (λ k l. f.0 k)
