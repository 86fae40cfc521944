-- Whether an instance is among those of a list.
use Rattle.std.proofs.Common.{◌≡◌, ◌↔◌, Bool, IsTrue, List, refl, sym, ap, ◌∙◌, subst}
use Rattle.std.specs.Prelude.{All, Contains}
use Rattle.std.proofs.lemmas.List.Elements.{All-contains}
use Rattle.fol.specs.declared.shapes.Shape.{Shape}
use Rattle.term_pool.specs.Items.{formula_in}
use Rattle.term_pool.specs.Pools.{item_at, Extends, IsOneNumber}
use Rattle.term_pool.specs.declared.node.Node.{Node}
use Rattle.term_pool.proofs.ShapeLemmas.{a_formula}
use Rattle.certificates.specs.Table.{Asks}
use Rattle.tableau.specs.PoolBranches.{BranchData, branch_in, IsFormulaNumber, IsOver}
use Rattle.tableau.specs.Numbers.{formula_at}
use Rattle.tableau.proofs.NumberLemmas.{number_stays, formula_stays}
use Rattle.tableau.proofs.EntryLemmas.{still_says}
use Rattle.axiom_strategy.specs.declared.due.WantedAxioms.TheVariants.{All as AllAxioms}
use Rattle.axiom_strategy.specs.declared.due.AxiomStep.{AxiomStep}
use Rattle.axiom_strategy.specs.Due.{IsDue, IsDueStep}
use Rattle.axiom_strategy.specs.Listing.{AreDueInstances}

pub none_among : (steps : List AxiomStep) (sought : AxiomStep) → All (λ s. s ≡ sought → ⊥) steps → Contains steps sought → ⊥
none_among steps sought all h = All-contains (λ s. s ≡ sought → ⊥) steps sought all h refl

module _ (shapes : List Shape) (ns ms : List Node) (grown : Extends ns ms) (one : IsOneNumber ms) (d : BranchData) (over : IsOver ns d) (steps : List AxiomStep) (are : AreDueInstances ms shapes (branch_in ms d) steps) (sought : AxiomStep) (number : IsFormulaNumber ns sought.formula) where
  is_due_there : Contains steps sought → IsDue (branch_in ms d) (Asks shapes (branch_in ms d)) sought.name (formula_at ms sought.formula) sought.generation
  is_due_there h =
      let step = All-contains (IsDueStep ms (branch_in ms d) AllAxioms (Asks shapes (branch_in ms d))) steps sought are.due h in
      let is : step.formula ≡ formula_at ms sought.formula = sym (ap formula_in step.number.is) in
      subst (λ p. IsDue (branch_in ms d) (Asks shapes (branch_in ms d)) sought.name p sought.generation) is step.due

  is_listed_there : IsDue (branch_in ms d) (Asks shapes (branch_in ms d)) sought.name (formula_at ms sought.formula) sought.generation → Contains steps sought
  is_listed_there due =
      let it = are.all sought.name (formula_at ms sought.formula) sought.generation due in
      let there = number_stays ns ms grown sought.formula number in
      let same : it.step.formula ≡ sought.formula = one.one it.step.formula sought.formula it.number.within there.within (it.number.is ∙ a_formula (item_at ms sought.formula) there.sort) in
      let whole : it.step ≡ sought = λ i. record { name = it.same_name i; formula = same i; generation = it.same_generation i } in
      subst (Contains steps) whole it.among

  there : IsDue (branch_in ms d) (Asks shapes (branch_in ms d)) sought.name (formula_at ms sought.formula) sought.generation ≡ IsDue (branch_in ns d) (Asks shapes (branch_in ns d)) sought.name (formula_at ns sought.formula) sought.generation
  there = λ i. IsDue (still_says ns ms grown d over i) (Asks shapes (still_says ns ms grown d over i)) sought.name (formula_stays ns ms grown sought.formula number i) sought.generation

  pub listed_so : (known : Bool) → IsTrue known ↔ Contains steps sought → IsTrue known ↔ IsDue (branch_in ns d) (Asks shapes (branch_in ns d)) sought.name (formula_at ns sought.formula) sought.generation
  listed_so known h = (
    λ yes. subst (λ T. T) there (is_due_there (h.0 yes)),
    λ due. h.1 (is_listed_there (subst (λ T. T) (sym there) due)),
  )
