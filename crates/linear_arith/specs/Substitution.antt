-- The substitution of values in constraints. A value p/q of an unknown is substituted by adding to q times the
-- constraint -c times the equation `q * unknown = p`, where c is the unknown's coefficient.
use Rattle.std.specs.Prelude.{◌≡◌, ℕ, List, pos, ◌-ℤ◌, ◌*ℤ◌, ◌≤ℤ◌, ◌<ℤ◌, if◌then◌else◌, ◌==◌, All, fold}
use Rattle.std.proofs.Common.{ℤ}
use Rattle.linear_arith.specs.Inequality.{Inequality, coefficient}
use Rattle.linear_arith.specs.declared.rows.Fraction.{Fraction}

-- a constraint as the coefficient of each unknown, and the bound
pub record LinearForm : Type 0 where
  pub at : ℕ → ℤ
  pub bound : ℤ

abbrev pub form_of : Inequality → LinearForm
form_of row = record { at = λ unknown. coefficient unknown row; bound = row.bound }

-- the form times the value's denominator, with the value substituted for its unknown
abbrev pub put_in : LinearForm → Fraction → LinearForm
put_in form value = record {
  at = λ unknown. (if unknown == value.unknown then pos 0 else (value.denominator *ℤ form.at unknown));
  bound = (value.denominator *ℤ form.bound) -ℤ (form.at value.unknown *ℤ value.numerator);
}

-- the form after the substitution of all values, one after another
abbrev pub put_in_all : LinearForm → List Fraction → LinearForm
put_in_all form values = fold put_in form values

-- no unknown is left, and 0 is at most the bound
pub record IsTrueForm (form : LinearForm) : Type 0 where
  pub no_unknown_left : (unknown : ℕ) → form.at unknown ≡ pos 0
  pub not_negative : pos 0 ≤ℤ form.bound

-- the values meet the constraint
abbrev pub Meets : List Fraction → Inequality → Type 0
Meets values row = IsTrueForm (put_in_all (form_of row) values)

-- denominators are at least 1
abbrev pub ArePositive : List Fraction → Type 0
ArePositive values = All (λ value. pos 0 <ℤ value.denominator) values

-- a constraint whose numbers, times some positive number, are those of the form
pub record IsRatio (form : LinearForm) (row : Inequality) : Type 0 where
  pub scale : ℤ
  pub positive : pos 0 <ℤ scale
  pub coefficients : (unknown : ℕ) → scale *ℤ coefficient unknown row ≡ form.at unknown
  pub bound : scale *ℤ row.bound ≡ form.bound
