-- The constraints of a stage after the substitution of the values chosen before, and the choice of the next value.
use Rattle.std.specs.Prelude.{◌≡◌, ◌≢◌, ℕ, List, pos, ◌*ℤ◌, ◌≤ℤ◌, Contains}
use Rattle.std.proofs.Common.{ℤ, ◌<ℤ◌}
use Rattle.linear_arith.specs.Inequality.{Inequality, coefficient}
use Rattle.linear_arith.specs.Rest.{IsRest}
use Rattle.linear_arith.specs.Stages.{StandsIn, IsRemovedFrom}
use Rattle.linear_arith.specs.Substitution.{LinearForm, form_of, put_in, put_in_all}
use Rattle.linear_arith.specs.declared.bounds.Bound.{Bound}
use Rattle.linear_arith.specs.declared.elimination.Derived.{Derived}
use Rattle.linear_arith.specs.declared.elimination.Stage.{Stage}
use Rattle.linear_arith.specs.declared.rows.Fraction.{Fraction}

abbrev pub left_of : List Fraction → Inequality → LinearForm
left_of values row = put_in_all (form_of row) values

-- up to a positive factor, the bound is that of a form on an unknown
pub record IsBoundOf (form : LinearForm) (unknown : ℕ) (bound : Bound) : Type 0 where
  pub scale : ℤ
  pub positive : pos 0 <ℤ scale
  pub coefficient : scale *ℤ bound.coefficient ≡ form.at unknown
  pub is_most : scale *ℤ bound.bound ≡ form.bound

-- one of the bounds is that of the form
pub record HasBound (form : LinearForm) (unknown : ℕ) (bounds : List Bound) : Type 0 where
  pub bound : Bound
  pub is_in : Contains bounds bound
  pub is_bound_of : IsBoundOf form unknown bound

-- each constraint in which the unknown is left has its bound
abbrev pub HaveBounds : List Derived → List Fraction → ℕ → List Bound → Type 0
HaveBounds rows values unknown bounds = (row : Inequality) → StandsIn rows row → (left_of values row).at unknown ≢ pos 0 → HasBound (left_of values row) unknown bounds

-- the bound is that of one of the constraints after the substitution
pub record IsOfRow (rows : List Derived) (values : List Fraction) (unknown : ℕ) (bound : Bound) : Type 0 where
  pub row : Inequality
  pub stands : StandsIn rows row
  pub is_bound_of : IsBoundOf (left_of values row) unknown bound
  pub rest : Inequality
  pub is_rest : IsRest row values rest
  pub same_coefficient : bound.coefficient ≡ coefficient unknown rest
  pub same_bound : bound.bound ≡ rest.bound

-- after the substitution in the stage's constraints, each upper bound of its unknown is at least each lower one
abbrev pub AreCompatible : Stage → List Fraction → Type 0
AreCompatible stage values = (upper lower : Inequality) → IsRemovedFrom stage upper → IsRemovedFrom stage lower → pos 0 <ℤ (left_of values upper).at stage.unknown → (left_of values lower).at stage.unknown <ℤ pos 0 → ((left_of values lower).at stage.unknown *ℤ (left_of values upper).bound) ≤ℤ ((left_of values upper).at stage.unknown *ℤ (left_of values lower).bound)

-- the value meets the stage's constraints after the substitution
abbrev pub MeetsStage : Stage → List Fraction → Fraction → Type 0
MeetsStage stage values value = (row : Inequality) → IsRemovedFrom stage row → (left_of values row).at stage.unknown ≢ pos 0 → pos 0 ≤ℤ (put_in (left_of values row) value).bound
