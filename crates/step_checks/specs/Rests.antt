-- What is left of a row after substitution of values, in numbers of any size.
use Rattle.std.specs.Prelude.{◌≡◌, ℕ, ◌*◌, ◌<◌, ℤ, pos, ◌-ℤ◌, ◌*ℤ◌, ◌<ℤ◌, unsigned_abs, slice_index_or, slice_set}
use Rattle.linear_arith.specs.declared.rows.Fraction.{Fraction}
use Rattle.linear_arith.specs.Substitution.{LinearForm}
use Rattle.step_checks.specs.declared.met_rows.rest.Rest.{Rest}

-- the form equals the rest up to a positive factor: each coefficient that is left is to be multiplied by `scale`, and
-- the bound is the difference of the two parts
pub record IsRestOf (form : LinearForm) (rest : Rest) : Type 0 where
  pub factor : ℤ
  pub positive : pos 0 <ℤ factor
  pub scale : 0 < rest.scale
  pub coefficients : (unknown : ℕ) → form.at unknown ≡ factor *ℤ (pos rest.scale *ℤ slice_index_or rest.left.items unknown (pos 0))
  pub bound : form.bound ≡ factor *ℤ (pos rest.above -ℤ pos rest.below)

-- the value of an unknown with this coefficient is substituted in the rest
pub record IsWithout (rest : Rest) (coefficient : ℤ) (value : Fraction) (made : Rest) : Type 0 where
  pub left : made.left.items ≡ slice_set rest.left.items value.unknown (pos 0)
  pub scale : made.scale ≡ rest.scale * unsigned_abs value.denominator
  pub bound : pos made.above -ℤ pos made.below ≡ (value.denominator *ℤ (pos rest.above -ℤ pos rest.below)) -ℤ ((pos rest.scale *ℤ coefficient) *ℤ value.numerator)
