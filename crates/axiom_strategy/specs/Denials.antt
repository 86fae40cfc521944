-- Equations that entries negate, by number and up to classes.
use Rattle.std.specs.Prelude.{◌≡◌, ◌↔◌, ℕ, List, Contains}
use Rattle.fol.specs.FormulaData.{TermData, EqFormula, NotFormula}
use Rattle.term_pool.specs.declared.node.Node.{Node}
use Rattle.certificates.specs.BranchesBranch.{Branch, Says}
use Rattle.tableau.specs.PoolBranches.{IsTermNumber}
use Rattle.congruence_closure.specs.Known.{BranchClassesData, class_of}
use Rattle.tableau.specs.Numbers.{formula_at}
use Rattle.tableau.specs.Terms.{term_at, IsBranchTerm}

-- the formula states that the terms differ
pub record AreSidesDenied (ns : List Node) (formula : ℕ) (sides : ℕ × ℕ) : Type 0 where
  pub left : IsTermNumber ns sides.0
  pub right : IsTermNumber ns sides.1
  pub is : formula_at ns formula ≡ NotFormula (EqFormula (term_at ns sides.0) (term_at ns sides.1))

-- the entry states that the terms differ
pub record DeniesSides (ns : List Node) (b : Branch) (i : ℕ) (sides : ℕ × ℕ) : Type 0 where
  pub left : IsBranchTerm ns b sides.0
  pub right : IsBranchTerm ns b sides.1
  pub says : Says b i (NotFormula (EqFormula (term_at ns sides.0) (term_at ns sides.1)))

pub record DeniesNone (b : Branch) (i : ℕ) : Type 0 where
  pub none : (t u : TermData) → Says b i (NotFormula (EqFormula t u)) → ⊥

-- an entry states that a term of the one class differs from a term of the other
pub record IsDeniedClass (ns : List Node) (b : Branch) (c : BranchClassesData) (one other : ℕ) : Type 0 where
  pub position : ℕ
  pub sides : ℕ × ℕ
  pub denies : DeniesSides ns b position sides
  pub is_one : class_of c sides.0 ≡ one
  pub is_other : class_of c sides.1 ≡ other

-- all such pairs of classes
pub record AreDenied (ns : List Node) (b : Branch) (c : BranchClassesData) (denied : List (ℕ × ℕ)) : Type 0 where
  pub each : (one other : ℕ) → Contains denied (one, other) ↔ IsDeniedClass ns b c one other
