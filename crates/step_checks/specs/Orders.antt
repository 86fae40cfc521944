-- Decisions on two numbers that are due on a branch: instances of the trichotomy axiom (two numbers are equal, or one
-- of them is at least 1 less than the other).
use Rattle.std.specs.Prelude.{◌≡◌, ℕ, [], ◌∷◌}
use Rattle.fol.specs.FormulaData.{TermData, FormulaData}
use Rattle.axioms.specs.declared.axiom.Axiom.{Axiom}
use Rattle.axioms.specs.declared.axiom.Axiom.TheVariants.{Cases}
use Rattle.axioms.specs.declared.axiom.Alternative.TheVariants.{Trichotomy}
use Rattle.certificates.specs.BranchesBranch.{Branch, IsNew}
use Rattle.certificates.specs.Decisions.{AsksDecision, AreNumbers}
use Rattle.certificates.specs.Due.{IsShallow, IsUnordered, trichotomy_axiom, AreGenerations}

-- a decision on the two numbers is triggered, and it is open which of them is the greater
pub record IsPairDue (b : Branch) (t u : TermData) : Type 0 where
  pub unordered : IsUnordered b t u
  pub triggered : AsksDecision b t u
  pub numbers : AreNumbers b t u

-- the formula is the instance for such a pair
pub record IsOrderOf (b : Branch) (t u : TermData) (p : FormulaData) : Type 0 where
  pub is : p ≡ trichotomy_axiom t u
  pub pair : IsPairDue b t u

-- the instance has this generation, and is new and no deeper than a step may add
pub record IsOrderDue (b : Branch) (p : FormulaData) (generation : ℕ) : Type 0 where
  pub left : TermData
  pub right : TermData
  pub order : IsOrderOf b left right p
  pub generations : AreGenerations b (left ∷ right ∷ []) generation
  pub is_new : IsNew b p
  pub shallow : IsShallow p

-- the same, and the axiom is the trichotomy axiom
pub record IsDecisionDue (b : Branch) (name : Axiom) (p : FormulaData) (generation : ℕ) : Type 0 where
  pub is_name : name ≡ Cases Trichotomy
  pub due : IsOrderDue b p generation
