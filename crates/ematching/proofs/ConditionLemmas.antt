-- The condition of a node.
use Rattle.std.proofs.Common.{Result, Ok, Err, IfOk, ◌≡◌, ℕ, Bool, false, List, length, Some, None, sym, subst}
use Rattle.std.specs.Prelude.{All, ◌↔◌, IsTrue}
use Rattle.base.specs.declared.memory.NoMemory.{NoMemory}
use Rattle.substitution.specs.Free.{free_in}
use Rattle.term_pool.specs.Pools.{HasParts}
use Rattle.term_pool.specs.declared.node.Three.TheVariants.{If}
use Rattle.term_pool.specs.declared.node.Node.{Node}
use Rattle.term_pool.specs.declared.node.Node.TheVariants.{Three as ThreeNode}
use Rattle.tableau.specs.PoolBranches.{IsFormulaNumber}
use Rattle.ematching.specs.Numbers.{formula_at}
use Rattle.ematching.specs.Fits.{condition_of, IsClearNode}

module _ (ns : List Node) (bound : List ℕ) where
  abbrev AreFree : ℕ → Type 0
  AreFree a = All (λ n. free_in n (formula_at ns a) ≡ false) bound

  of_condition : (node : Node) (a : ℕ) → condition_of node ≡ Some a → IsClearNode ns bound node ↔ AreFree a
  of_condition (ThreeNode If b c d) a e = (let same : b ≡ a = cc in (λ h. subst AreFree same h, λ h. subst AreFree (sym same) h))
  of_condition _ a e = absurd (cc)

  pub clear_none : (node : Node) → condition_of node ≡ None → IsClearNode ns bound node
  clear_none (ThreeNode If b c d) e = absurd (cc)
  clear_none _ e = tt

  pub clear_some : (node : Node) (a : ℕ) → condition_of node ≡ Some a → (r : Result Bool NoMemory) → IfOk r (λ b. IsTrue b ↔ All (λ n. free_in n (formula_at ns a) ≡ false) bound) → IfOk r (λ b. IsTrue b ↔ IsClearNode ns bound node)
  clear_some node a e (Err x) h = h
  clear_some node a e (Ok b) h = (let is = of_condition node a e in (λ t. is.1 (h.0 t), λ c. h.1 (is.0 c)))

pub condition_number : (ns : List Node) (node : Node) (a : ℕ) → HasParts ns (length ns) node → condition_of node ≡ Some a → IsFormulaNumber ns a
condition_number ns (ThreeNode If b c d) a parts e = (let same : b ≡ a = cc in subst (IsFormulaNumber ns) same (record { within = parts.0.earlier; sort = parts.0.sort }))
condition_number ns _ a parts e = absurd (cc)
