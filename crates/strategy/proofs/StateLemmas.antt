-- The state of a branch, with numbers above its variables.
use Rattle.std.proofs.Common.{◌≡◌, ℕ, ◌≤◌, ◌^◌, Bool, List, sym, subst}
use Rattle.std.specs.Prelude.{◌↔◌, IsTrue}
use Rattle.term_pool.proofs.GrowthLemmas.{extends_itself}
use Rattle.term_pool.specs.declared.node.Node.{Node}
use Rattle.certificates.specs.BranchesBranch.{Branch, formulas}
use Rattle.certificates.specs.Names.{above_all}
use Rattle.tableau.specs.PoolBranches.{BranchData}
use Rattle.tableau.specs.Variables.{AreAbove}
use Rattle.tableau.specs.States.{IsState, Follows}
use Rattle.tableau.specs.declared.state.BranchState.{BranchState}
use Rattle.strategy.proofs.MarkLemmas.{state_varied}
use Rattle.search.specs.Decisions.{IsCrowded}

-- with other variables
pub state_above : (ns : List Node) (d : BranchData) (s t : BranchState) → t.entries ≡ s.entries → t.classes ≡ s.classes → t.classed ≡ s.classed → t.marks ≡ s.marks → IsState ns s → Follows d s → AreAbove ns d.entries t.variables → IsState ns t
state_above ns d s t entries classes classed marks h follows above = state_varied d s t entries ns ns (extends_itself ns) classes classed marks h follows above

pub crowded_test : (b : Branch) (r : Bool) (above : ℕ) → above ≡ above_all (formulas b) → IsTrue r ↔ (2 ^ 32 ≤ above) → IsTrue r ↔ IsCrowded b
crowded_test b r above e test = (λ t. record { crowded = subst (λ n. 2 ^ 32 ≤ n) e (test.0 t) }, λ h. test.1 (subst (λ n. 2 ^ 32 ≤ n) (sym e) h.crowded))
