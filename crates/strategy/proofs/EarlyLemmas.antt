-- The applications that come before all others.
use Rattle.std.proofs.Common.{List, Option, Some, None}
use Rattle.std.specs.Prelude.{MatchOption}
use Rattle.fol.specs.declared.shapes.Shape.{Shape}
use Rattle.term_pool.specs.Pools.{Extends}
use Rattle.term_pool.specs.declared.node.Node.{Node}
use Rattle.certificates.specs.BranchesBranch.{Branch}
use Rattle.certificates.specs.ProofTraces.{NothingEarly}
use Rattle.tableau.specs.PoolBranches.{BranchData, branch_in, IsOver}
use Rattle.tableau.specs.Steps.{NoParts}
use Rattle.tableau.specs.Names.{NoName}
use Rattle.axiom_strategy.specs.declared.due.WantedAxioms.TheVariants.{Ranges}
use Rattle.axiom_strategy.specs.Due.{NoAxiom}
use Rattle.axiom_strategy.proofs.RangeLemmas.{ranges_first}
use Rattle.search.specs.declared.trees.application.Extension.{Extension}
use Rattle.search.specs.Decisions.{IsExtensionDue}
use Rattle.search.proofs.ApplicationLemmas.{fact_goes_back}
use Rattle.strategy.specs.Ranges.{NoRangeSplit}

nothing_early : (shapes : List Shape) (b : Branch) → NoParts b → NoName b → NoAxiom shapes b Ranges → NoRangeSplit b → NothingEarly shapes b
nothing_early shapes b parts names axioms splits =
    let first = ranges_first shapes b axioms in
    record {
      no_parts = λ i ps due. (parts.each i).none ps due;
      no_name = λ i v p due. (names.each i).none v p due;
      no_range = first.no_range;
      no_whole = first.no_whole;
      no_range_split = λ i p ps says is due. (splits.each i).none p ps says is due;
    }

-- the result of the last of the four, over the pools after the others
module _ (ns : List Node) (d : BranchData) (over : IsOver ns d) (shapes : List Shape) where
  pub due_back : (ms : List Node) → Extends ns ms → (g : Extension) → IsExtensionDue shapes ms (branch_in ms d) g → IsExtensionDue shapes ms (branch_in ns d) g
  due_back ms grown g h = fact_goes_back ns ms grown (λ b. IsExtensionDue shapes ms b g) d over h

  pub early_answer : (ms1 ms2 ms3 ms4 : List Node) → Extends ns ms1 → Extends ns ms2 → Extends ns ms3 → Extends ns ms4 → NoParts (branch_in ms1 d) → NoName (branch_in ms2 d) → NoAxiom shapes (branch_in ms3 d) Ranges → (o : Option Extension) → MatchOption o (NoRangeSplit (branch_in ms4 d)) (IsExtensionDue shapes ms4 (branch_in ms4 d)) → MatchOption o (NothingEarly shapes (branch_in ns d)) (IsExtensionDue shapes ms4 (branch_in ns d))
  early_answer ms1 ms2 ms3 ms4 e1 e2 e3 e4 parts names axioms None h =
      nothing_early shapes (branch_in ns d) (fact_goes_back ns ms1 e1 NoParts d over parts) (fact_goes_back ns ms2 e2 NoName d over names) (fact_goes_back ns ms3 e3 (λ b. NoAxiom shapes b Ranges) d over axioms) (fact_goes_back ns ms4 e4 NoRangeSplit d over h)
  early_answer ms1 ms2 ms3 ms4 e1 e2 e3 e4 parts names axioms (Some g) h = due_back ms4 e4 g h
