-- Instances of axioms and of quantified entries that are due.
use Rattle.std.proofs.Common.{ℕ, List, [], ◌∷◌, Option, Some, None, arith}
use Rattle.std.specs.Prelude.{MatchOption}
use Rattle.fol.specs.declared.shapes.Shape.{Shape}
use Rattle.fol.specs.FormulaData.{TermData, FormulaData}
use Rattle.axioms.specs.declared.axiom.Axiom.{Axiom}
use Rattle.term_pool.specs.declared.node.Node.{Node}
use Rattle.certificates.specs.BranchesBranch.{Branch, formulas, IsNew}
use Rattle.certificates.specs.Due.{IsShallow, trichotomy_axiom, AsksAxiom, ByTable, AsDecision, AreGenerations}
use Rattle.certificates.specs.Names.{above_all}
use Rattle.tableau.proofs.AboveLemmas.{all_new}
use Rattle.axiom_strategy.specs.declared.due.WantedAxioms.TheVariants.{All as Everything}
use Rattle.axiom_strategy.specs.Due.{NoAxiom}
use Rattle.axiom_strategy.specs.Families.{HasVariable}
use Rattle.axiom_strategy.specs.Orders.{NoOrder}
use Rattle.ematching.specs.Instances.{NoInstance}
use Rattle.search.specs.declared.trees.application.Extension.{Extension}
use Rattle.search.specs.Decisions.{HasRoom, IsExtensionDue, NothingPlain}
use Rattle.strategy.specs.Plain.{NoAxiomDue}

-- the number above all variables of a branch is that of one that is free in no entry
pub variable_left : (b : Branch) → HasRoom b → HasVariable b
variable_left b room = record { number = above_all (formulas b); is_variable = room.number; is_new = all_new (above_all (formulas b)) (formulas b) (omega arith) }

module _ (shapes : List Shape) (b : Branch) (table : NoAxiom shapes b Everything) (orders : NoOrder b) where
  not_triggered : {name : Axiom} {ts : List TermData} {p : FormulaData} (g : ℕ) → AsksAxiom shapes b name ts p → AreGenerations b ts g → IsNew b p → IsShallow p → ⊥
  not_triggered g (ByTable name ts p h) generations new shallow = table.none name p g tt (record { terms = ts; triggered = h; generations = generations; is_new = new; shallow = shallow })
  not_triggered g (AsDecision t u x y z) generations new shallow = orders.none shapes (trichotomy_axiom t u) g (record { terms = t ∷ u ∷ []; triggered = AsDecision t u x y z; generations = generations; is_new = new; shallow = shallow })

  pub no_axiom : NoAxiomDue shapes b
  no_axiom = record { none = λ name p g due. not_triggered g due.triggered due.generations due.is_new due.shallow }

-- no axiom instance was found, and this instance of a quantified entry
pub plain_answer : (shapes : List Shape) (b : Branch) (ks : List Node) → NoAxiomDue shapes b → (o : Option Extension) → MatchOption o (NoInstance b) (IsExtensionDue shapes ks b) → MatchOption o (NothingPlain shapes b) (IsExtensionDue shapes ks b)
plain_answer shapes b ks axioms None h = record { no_instance = λ i t p g due. (h.each i).none t p g due; no_axiom = λ name p g due. axioms.none name p g due }
plain_answer shapes b ks axioms (Some extension) h = h
