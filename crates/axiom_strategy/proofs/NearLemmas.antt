-- Due instances of relevant triggers.
use Rattle.std.proofs.Common.{List, length, Option, Some, None}
use Rattle.std.specs.Prelude.{IfSome}
use Rattle.fol.specs.declared.shapes.Shape.{Shape}
use Rattle.term_pool.specs.Pools.{Extends}
use Rattle.term_pool.specs.declared.node.Node.{Node}
use Rattle.tableau.specs.PoolBranches.{BranchData, branch_in, IsOver}
use Rattle.axiom_strategy.specs.declared.askers.Asker.{Asker}
use Rattle.axiom_strategy.specs.declared.due.WantedAxioms.TheVariants.{All as Everything}
use Rattle.axiom_strategy.specs.declared.due.AxiomStep.{AxiomStep}
use Rattle.axiom_strategy.specs.Due.{IsDueStep, AsksOfSome, IsAxiomStep}
use Rattle.axiom_strategy.specs.Askers.{asks_at}
use Rattle.axiom_strategy.specs.Families.{AskEverything}
use Rattle.axiom_strategy.proofs.NextLemmas.{next_answer}

module _ (shapes : List Shape) (ns : List Node) (d : BranchData) (over : IsOver ns d) (askers : List Asker) (h : AskEverything ns (branch_in ns d) askers) where
  pub near_answer : {ks : List Node} → Extends ns ks → (o : Option AxiomStep) → IfSome o (IsDueStep ks (branch_in ns d) Everything (AsksOfSome (length askers) (asks_at shapes ns askers))) → IfSome o (IsAxiomStep ks shapes (branch_in ks d) Everything)
  near_answer grown None none = none
  near_answer grown (Some step) due = next_answer shapes ns d over askers h grown (Some step) due
