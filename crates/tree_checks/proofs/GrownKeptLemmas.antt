-- The state of the checks stays right while the branch and the pool are extended.
use Rattle.std.proofs.Common.{List, [], subst, sym}
use Rattle.term_pool.specs.Pools.{Extends}
use Rattle.term_pool.specs.declared.node.Node.{Node}
use Rattle.tableau.specs.PoolBranches.{BranchData, IsOver}
use Rattle.tableau.specs.declared.entry.PoolEntry.{PoolEntry}
use Rattle.tableau.specs.Variables.{AreAbove}
use Rattle.tableau.proofs.VariablesLemmas.{above_grown, above_longer}
use Rattle.ematching.proofs.HeadLemmas.{index_stays}
use Rattle.ematching.proofs.QuantifierLemmas.{free_grown}
use Rattle.tableau.proofs.StateLemmas.{state_stays}
use Rattle.tree_checks.specs.Entries.{IsLonger}
use Rattle.tree_checks.specs.Kept.{IsKept}
use Rattle.tree_checks.specs.declared.grown.keeping.Kept.{Kept}

module _ (ns ms : List Node) (grown : Extends ns ms) where
  pub kept_stays : (d : BranchData) → IsOver ns d → (k : Kept) → IsKept ns d.entries k → IsKept ms d.entries k
  kept_stays d over k h = record {
    above = above_grown ns ms grown d over k.variables h.above;
    state = state_stays ns ms grown k.state h.state;
    heads = index_stays ns ms grown k.heads h.heads;
    quantifiers = free_grown ns ms k.quantifiers grown h.quantifiers;
  }

pub kept_longer : (ns : List Node) (es fs : List PoolEntry) → IsLonger es fs → (k : Kept) → IsKept ns es k → IsKept ns fs k
kept_longer ns es fs more k h = record {
  above = subst (λ xs. AreAbove ns xs k.variables) (sym more.is) (above_longer ns es more.more k.variables h.above);
  state = h.state;
  heads = h.heads;
  quantifiers = h.quantifiers;
}
