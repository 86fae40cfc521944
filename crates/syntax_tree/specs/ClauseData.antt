-- The parts of clauses that contain lists, as pure data that contracts see.
use Rattle.std.specs.Prelude.{Bool, List}
use Rattle.syntax_tree.specs.SpecExpressionData.{SpecExpressionData, SpecFieldData}
use Rattle.syntax_tree.specs.declared.clause.Pragma.{Pragma}

pub record PragmasData : Type 0 where
  pub items : List Pragma
  pub last_comma : Bool

pub record TargetsData : Type 0 where
  pub items : List SpecExpressionData
  pub last_comma : Bool

pub record BindingsData : Type 0 where
  pub items : List SpecFieldData
  pub last_comma : Bool
