use Rattle.std.proofs.Common.{◌≡◌, ℕ, ◌∷◌, []}
use Rattle.std.specs.Prelude.{All}
use Rattle.term_pool.specs.Pools.{Extends}
use Rattle.tableau.specs.PoolBranches.{IsFormulaNumber}
use Rattle.tree_checks.specs.Steps.{first_branch}
use Rattle.tree_checks.specs.Walks.{opened, IsWalk}
use Rattle.tree_checks.specs.Numbers.{IsApplicationNumbered}
use Rattle.tree_checks.proofs.TextsTextLemmas.{IsRead}
use Rattle.tree_checks.proofs.texts.partial.is_read.Given as goal

abbrev pub invariant-loop-application : goal.invariant-loop-application
invariant-loop-application l = record {
  extends : Extends l.fn.pool l.pool;
  walk : IsWalk l.pool l.walk;
  numbers : All (IsApplicationNumbered l.fn.pool) l.application-iterator.rest.items;
  read : (n : ℕ) → IsFormulaNumber l.fn.pool n → opened l.fn.pool l.fn.walk ≡ first_branch l.fn.pool n ∷ [] → IsRead l.shapes l.fn.pool l.pool (first_branch l.fn.pool n ∷ []) l.fn.text.items l.application-iterator.rest.items l.budget l.walk l.left;
}
