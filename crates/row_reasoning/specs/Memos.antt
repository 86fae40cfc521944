-- Sums kept while terms are walked.
use Rattle.std.specs.Prelude.{◌≡◌, ℕ, nat_eq, List, Option, Some, MatchOption}
use Rattle.fol.specs.FormulaData.{TermData}
use Rattle.certificates.specs.Rows.{over}
use Rattle.indexmap.specs.IndexMap.{get}
use Rattle.term_pool.specs.declared.node.Node.{Node}
use Rattle.row_reasoning.specs.Sums.{IsSumOf, Leaves}
use Rattle.row_reasoning.specs.Shapes.{term_at}
use Rattle.row_reasoning.specs.declared.sum.LinearSum.{LinearSum}
use Rattle.row_reasoning.specs.declared.memo.Memo.{Memo}

-- each sum kept for a number is that of its term over classes
pub record IsRight (ns : List Node) (class : TermData → ℕ) (m : Memo) : Type 0 where
  pub sums : (n : ℕ) (s : LinearSum) → get nat_eq m.sums n ≡ Some s → IsSumOf (over class (term_at ns n)) s

-- the result is the sum of the term with this number, if it has one; and the memo is right
pub record IsFound (ns : List Node) (class : TermData → ℕ) (n : ℕ) (made : Option LinearSum) (m : Memo) : Type 0 where
  pub sum : MatchOption made (Leaves (over class (term_at ns n))) (IsSumOf (over class (term_at ns n)))
  pub right : IsRight ns class m
