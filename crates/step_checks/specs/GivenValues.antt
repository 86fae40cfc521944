-- Values given with an elimination.
use Rattle.std.specs.Prelude.{◌≢◌, ℕ, ◌<◌, List, []}
use Rattle.std.specs.List.{AllPairs}
use Rattle.linear_arith.specs.Inequality.{Inequality}
use Rattle.linear_arith.specs.declared.rows.Fraction.{Fraction}
use Rattle.linear_arith.specs.Values.{AreValues, HasValue}
use Rattle.step_checks.specs.Given.{rows_of, width_of, IsGivenElimination}
use Rattle.step_checks.specs.declared.elimination.GivenElimination.{GivenElimination}

-- the elimination is complete and eliminates no unknown twice; the values, in their order, are chosen after it, the
-- last eliminated unknown first, and each unknown has one
pub record AreGivenValues (rows : List Inequality) (given : GivenElimination) (values : List Fraction) : Type 0 where
  pub elimination : IsGivenElimination rows given
  pub different : AllPairs (λ first second. first ≢ second) given.unknowns.items
  pub are_values : AreValues (rows_of given.rows.items) given.unknowns.items [] values
  pub covered : (unknown : ℕ) → unknown < width_of rows → HasValue values unknown
