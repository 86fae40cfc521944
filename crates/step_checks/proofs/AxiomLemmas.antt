-- Instances of axioms that are due, by the table or as decisions.
use Rattle.std.proofs.Common.{◌≡◌, ◌↔◌, ◌⊎◌, inl, inr, ℕ, Bool, true, false, IsTrue, List, [], ◌∷◌, refl, sym, subst}
use Rattle.fol.specs.declared.shapes.Shape.{Shape}
use Rattle.fol.specs.FormulaData.{TermData, FormulaData}
use Rattle.axioms.specs.declared.axiom.Axiom.{Axiom}
use Rattle.axioms.specs.declared.axiom.Axiom.TheVariants.{Cases}
use Rattle.axioms.specs.declared.axiom.Alternative.TheVariants.{Trichotomy}
use Rattle.term_pool.specs.Pools.{Extends}
use Rattle.term_pool.specs.declared.node.Node.{Node}
use Rattle.certificates.specs.BranchesBranch.{Branch, IsNew}
use Rattle.certificates.specs.Table.{Asks}
use Rattle.certificates.specs.Due.{IsShallow, AsksAxiom, ByTable, AsDecision, trichotomy_axiom, AreGenerations, AxiomDue}
use Rattle.tableau.specs.PoolBranches.{BranchData, branch_in, IsFormulaNumber, IsOver}
use Rattle.tableau.specs.Numbers.{formula_at}
use Rattle.tableau.proofs.NumberLemmas.{formula_stays}
use Rattle.tableau.proofs.EntryLemmas.{still_says}
use Rattle.axiom_strategy.specs.Due.{IsDue}
use Rattle.step_checks.proofs.DecisionsTruthLemmas.{never}
use Rattle.step_checks.specs.Orders.{IsOrderDue, IsDecisionDue}

-- ---- one axiom

pub other_axiom : (b : Branch) (name : Axiom) (p : FormulaData) (g : ℕ) → (name ≡ Cases Trichotomy → ⊥) → IsTrue false ↔ IsDecisionDue b name p g
other_axiom b name p g none = never (λ due. none due.is_name)

pub that_axiom : (b : Branch) (name : Axiom) (p : FormulaData) (g : ℕ) → name ≡ Cases Trichotomy → (known : Bool) → IsTrue known ↔ IsOrderDue b p g → IsTrue known ↔ IsDecisionDue b name p g
that_axiom b name p g is known h = (λ yes. record { is_name = is; due = h.0 yes }, λ due. h.1 due.due)

-- ---- all axioms

module _ (shapes : List Shape) (b : Branch) where
  by_triggered : {name : Axiom} {ts : List TermData} {p : FormulaData} (g : ℕ) → AsksAxiom shapes b name ts p → AreGenerations b ts g → IsNew b p → IsShallow p → IsDue b (Asks shapes b) name p g ⊎ IsDecisionDue b name p g
  by_triggered g (ByTable name ts p h) generations new shallow = inl (record { terms = ts; triggered = h; generations = generations; is_new = new; shallow = shallow })
  by_triggered g (AsDecision t u x y z) generations new shallow = inr (record {
    is_name = refl;
    due = record {
      left = t;
      right = u;
      order = record { is = refl; pair = record { unordered = x; triggered = y; numbers = z } };
      generations = generations;
      is_new = new;
      shallow = shallow;
    };
  })

  of_axiom : (name : Axiom) (p : FormulaData) (g : ℕ) → AxiomDue shapes b name p g → IsDue b (Asks shapes b) name p g ⊎ IsDecisionDue b name p g
  of_axiom name p g due = by_triggered g due.triggered due.generations due.is_new due.shallow

  pub by_table : (name : Axiom) (p : FormulaData) (g : ℕ) → IsDue b (Asks shapes b) name p g → IsTrue true ↔ AxiomDue shapes b name p g
  by_table name p g h = (
    λ yes. record { terms = h.terms; triggered = ByTable name h.terms p h.triggered; generations = h.generations; is_new = h.is_new; shallow = h.shallow },
    λ due. refl,
  )

  as_decision : (name : Axiom) (p : FormulaData) (g : ℕ) → IsDecisionDue b name p g → AxiomDue shapes b name p g
  as_decision name p g h =
      let o = h.due in
      let triggered : AsksAxiom shapes b (Cases Trichotomy) (o.left ∷ o.right ∷ []) (trichotomy_axiom o.left o.right) = AsDecision o.left o.right o.order.pair.unordered o.order.pair.triggered o.order.pair.numbers in
      record {
        terms = o.left ∷ o.right ∷ [];
        triggered = subst (λ n. AsksAxiom shapes b n (o.left ∷ o.right ∷ []) p) (sym h.is_name) (subst (AsksAxiom shapes b (Cases Trichotomy) (o.left ∷ o.right ∷ [])) (sym o.order.is) triggered);
        generations = o.generations;
        is_new = o.is_new;
        shallow = o.shallow;
      }

  pub no_table : (name : Axiom) (p : FormulaData) (g : ℕ) → (IsDue b (Asks shapes b) name p g → ⊥) → (known : Bool) → IsTrue known ↔ IsDecisionDue b name p g → IsTrue known ↔ AxiomDue shapes b name p g
  no_table name p g none known h = (
    λ yes. as_decision name p g (h.0 yes),
    λ due. elim (of_axiom name p g due) [ inl q ↦ absurd (none q) | inr q ↦ h.1 q ],
  )

pub decision_before : (ns ms : List Node) (grown : Extends ns ms) (d : BranchData) (over : IsOver ns d) (name : Axiom) (n g : ℕ) → IsFormulaNumber ns n → (known : Bool) → IsTrue known ↔ IsDecisionDue (branch_in ms d) name (formula_at ms n) g → IsTrue known ↔ IsDecisionDue (branch_in ns d) name (formula_at ns n) g
decision_before ns ms grown d over name n g number known h =
    subst (λ b. IsTrue known ↔ IsDecisionDue b name (formula_at ns n) g) (still_says ns ms grown d over) (subst (λ p. IsTrue known ↔ IsDecisionDue (branch_in ms d) name p g) (formula_stays ns ms grown n number) h)
