-- A function with the clauses of its spec blocks, as contracts see it.
use Rattle.std.specs.Prelude.{List}
use Rattle.sum_tree.specs.SumFunctionData.{SumFunctionData}
use Rattle.sum_tree.specs.declared.clause.SumClause.{SumClause}

pub record SpecifiedFunctionData : Type 0 where
  pub function : SumFunctionData
  pub clauses : List SumClause
