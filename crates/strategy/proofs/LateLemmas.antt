-- Case splits and cuts that are due.
use Rattle.std.proofs.Common.{List, arith}
use Rattle.fol.specs.declared.shapes.Shape.{Shape}
use Rattle.term_pool.specs.Pools.{Extends}
use Rattle.term_pool.specs.declared.node.Node.{Node}
use Rattle.certificates.specs.BranchesBranch.{Branch}
use Rattle.certificates.specs.ProofTraces.{IsLate, IsSplitTime, Late}
use Rattle.tableau.specs.PoolBranches.{BranchData, branch_in, IsOver}
use Rattle.tableau.specs.Steps.{NoSplitBefore, NoSplit, IsSplitStep, AreCasesDue}
use Rattle.tableau.specs.declared.rules.formulas.EntryStep.{EntryStep}
use Rattle.tableau.specs.Terms.{AreClassesOf}
use Rattle.congruence_closure.specs.Known.{BranchClassesData}
use Rattle.congruence_closure.proofs.OverLemmas.{still_over}
use Rattle.axiom_strategy.specs.Cuts.{NoCut}
use Rattle.search.specs.declared.trees.application.Extension.{Extension}
use Rattle.search.specs.Decisions.{NothingLate, IsExtensionDue}
use Rattle.search.proofs.ApplicationLemmas.{fact_stays, fact_goes_back}

pub no_split_yet : (b : Branch) → NoSplitBefore b 0
no_split_yet b = record { each = λ i w. absurd (omega (arith, w)) }

module _ (ns ms : List Node) (grown : Extends ns ms) (d : BranchData) (over : IsOver ns d) where
  pub classes_stay : (c : BranchClassesData) → AreClassesOf ns d c → AreClassesOf ms d c
  classes_stay c h = record { over = still_over ns ms c grown h.over; entries = h.entries }

  -- a split that is due over the larger pool is due on the branch over the smaller one
  pub split_back : (shapes : List Shape) (step : EntryStep) (g : Extension) → IsSplitStep ms (branch_in ms d) step → (AreCasesDue ms (branch_in ms d) step.entry step.formulas.items → IsSplitTime shapes (branch_in ms d) step.entry → IsExtensionDue shapes ms (branch_in ms d) g) → IsLate shapes (branch_in ns d) → IsExtensionDue shapes ms (branch_in ns d) g
  split_back shapes step g h made late = fact_goes_back ns ms grown (λ b. IsExtensionDue shapes ms b g) d over (made h.cases (Late (fact_stays ns ms grown (IsLate shapes) d over late)))

-- nothing late is due if neither was found
pub nothing_late : (ns ms os : List Node) → Extends ns ms → Extends ns os → (d : BranchData) → IsOver ns d → NoSplit (branch_in ms d) → NoCut (branch_in os d) → NothingLate (branch_in ns d)
nothing_late ns ms os one both d over split cut =
    let s = fact_goes_back ns ms one NoSplit d over split in
    let c = fact_goes_back ns os both NoCut d over cut in
    record { no_split = λ i ps due. (s.each i).none ps due; no_cut = λ t u due. c.none t u due }
