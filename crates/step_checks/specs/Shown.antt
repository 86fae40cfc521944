-- What a given elimination shows.
use Rattle.std.specs.Prelude.{◌≡◌, List}
use Rattle.linear_arith.specs.Inequality.{Inequality}
use Rattle.linear_arith.specs.Closure.{IsCompleteElimination}
use Rattle.step_checks.specs.Given.{rows_of, width_of}
use Rattle.step_checks.specs.declared.elimination.GivenElimination.{GivenElimination}

-- the rows have a complete elimination with these unknowns and these rows
pub record ShowsElimination (rows : List Inequality) (given : GivenElimination) : Type 0 where
  pub complete : IsCompleteElimination rows
  pub width : complete.width ≡ width_of rows
  pub unknowns : complete.unknowns ≡ given.unknowns.items
  pub found : complete.found ≡ rows_of given.rows.items
