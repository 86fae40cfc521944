-- A spec block of a function, with clauses over sums, as pure data.
use Rattle.std.specs.Prelude.{ℕ, List}
use Rattle.sum_tree.specs.declared.clause.SumClause.{SumClause}

pub record SumSpecData : Type 0 where
  pub target : List ℕ
  pub clauses : List SumClause
