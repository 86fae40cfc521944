-- A module of such functions, as contracts see it.
use Rattle.std.specs.Prelude.{ℕ, List}
use Rattle.sum_tree.specs.SpecifiedData.{SpecifiedFunctionData}

pub record SumModuleData : Type 0 where
  pub file : ℕ
  pub address : ℕ
  pub name : List ℕ
  pub functions : List SpecifiedFunctionData
