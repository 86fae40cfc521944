-- The state of the checks while the classes follow the branch and the pool is extended.
use Rattle.term_pool.specs.Pools.{Extends}
use Rattle.term_pool.specs.declared.node.Node.{Node}
use Rattle.tableau.specs.PoolBranches.{BranchData, IsOver}
use Rattle.tableau.specs.Variables.{VariablesData, AreAbove}
use Rattle.tableau.specs.States.{IsState}
use Rattle.tableau.specs.declared.state.BranchState.{BranchState}
use Rattle.tree_checks.specs.Kept.{IsKept}
use Rattle.tree_checks.specs.declared.grown.keeping.Kept.{Kept}
use Rattle.tree_checks.proofs.GrownKeptLemmas.{kept_stays}
use Rattle.std.specs.Prelude.{List}

module _ (ns ms : List Node) (grown : Extends ns ms) (d : BranchData) (over : IsOver ns d) (k : Kept) (h : IsKept ns d.entries k) where
  pub kept_still : IsKept ms d.entries k
  kept_still = kept_stays ns ms grown d over k h

  -- with the classes updated before, and the variables later
  pub kept_followed : (state : BranchState) (variables : VariablesData) → IsState ns state → AreAbove ms d.entries variables → IsKept ms d.entries (record { variables = variables; state = state; heads = k.heads; quantifiers = k.quantifiers })
  kept_followed state variables is_state above =
      let between : Kept = record { variables = k.variables; state = state; heads = k.heads; quantifiers = k.quantifiers } in
      let later = kept_stays ns ms grown d over between (record { above = h.above; state = is_state; heads = h.heads; quantifiers = h.quantifiers }) in
      record { above = above; state = later.state; heads = later.heads; quantifiers = later.quantifiers }
