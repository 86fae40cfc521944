-- Decisions on two numbers: instances of the trichotomy axiom, by which two numbers are equal or one of them is at
-- least 1 less than the other.
use Rattle.std.specs.Prelude.{◌≡◌, ◌↔◌, ℕ, Bool, true, List, [], ◌∷◌, Contains}
use Rattle.fol.specs.declared.shapes.Shape.{Shape}
use Rattle.fol.specs.FormulaData.{TermData, FormulaData}
use Rattle.axioms.specs.declared.axiom.Axiom.TheVariants.{Cases}
use Rattle.axioms.specs.declared.axiom.Alternative.TheVariants.{Trichotomy}
use Rattle.term_pool.specs.declared.node.Node.{Node}
use Rattle.certificates.specs.BranchesBranch.{Branch, IsNew}
use Rattle.certificates.specs.Decisions.{AreIndexes, AreNumbers}
use Rattle.certificates.specs.Due.{IsShallow, trichotomy_axiom, IsUnordered, AreGenerations, AxiomDue}
use Rattle.tableau.specs.Numbers.{IsNumberOf}
use Rattle.axiom_instances.specs.Lists.{Triggered}
use Rattle.base.specs.Lists.{list_in}
use Rattle.tableau.specs.Terms.{term_at, IsBranchTerm}
use Rattle.axiom_strategy.specs.Numbers.{mark_at}
use Rattle.axiom_strategy.specs.Denials.{DeniesSides}
use Rattle.axiom_strategy.specs.Positions.{at_group}
use Rattle.axiom_strategy.specs.declared.decisions.positions.Position.{Position}
use Rattle.axiom_strategy.specs.declared.decisions.orders.OrderStep.{OrderStep}

-- no instance is due
pub record NoOrder (b : Branch) : Type 0 where
  pub none : (shapes : List Shape) (p : FormulaData) (g : ℕ) → AxiomDue shapes b (Cases Trichotomy) p g → ⊥

-- the number and the generation of a due instance
pub record IsOrder (ns : List Node) (b : Branch) (step : OrderStep) : Type 0 where
  pub formula : FormulaData
  pub numbered : IsNumberOf ns formula step.formula
  pub due : (shapes : List Shape) → AxiomDue shapes b (Cases Trichotomy) formula step.generation

-- ---- the instance for two terms

abbrev pub order_row : TermData → TermData → Triggered
order_row t u = record { name = Cases Trichotomy; terms = t ∷ u ∷ []; formula = trichotomy_axiom t u }

-- the instance is new and shallow, and which of the terms is the greater is not settled
pub record IsFresh (b : Branch) (t u : TermData) : Type 0 where
  pub unordered : IsUnordered b t u
  pub is_new : IsNew b (trichotomy_axiom t u)
  pub shallow : IsShallow (trichotomy_axiom t u)

pub record NotFresh (b : Branch) (t u : TermData) : Type 0 where
  pub not : IsFresh b t u → ⊥

pub record IsFreshStep (ns : List Node) (b : Branch) (t u : TermData) (step : OrderStep) : Type 0 where
  pub fresh : IsFresh b t u
  pub numbered : IsNumberOf ns (trichotomy_axiom t u) step.formula
  pub generations : AreGenerations b (t ∷ u ∷ []) step.generation

-- the instance may be added
pub record IsAddable (b : Branch) (p : FormulaData) : Type 0 where
  pub is_new : IsNew b p
  pub shallow : IsShallow p

-- ---- pairs of terms

-- the first term is this one, and the second is among the others
pub record IsWith (left : ℕ) (others : List ℕ) (t u : ℕ) : Type 0 where
  pub is_left : t ≡ left
  pub among : Contains others u

pub record IsListed (pairs : List (ℕ × ℕ)) (t u : ℕ) : Type 0 where
  pub among : Contains pairs (t, u)

-- terms that index one group
pub record IsInGroup (all : List Position) (lists : List (ℕ × List ℕ)) (t u : ℕ) : Type 0 where
  pub group : ℕ
  pub one : Contains all (at_group group t)
  pub other : Contains (list_in lists group) u

-- such pairs are of terms of the branch
pub record AreOfBranch (ns : List Node) (b : Branch) (IsPair : ℕ → ℕ → Type 0) : Type 0 where
  pub each : (t u : ℕ) → IsPair t u → IsBranchTerm ns b t × IsBranchTerm ns b u

pub record NoneFresh (ns : List Node) (b : Branch) (IsPair : ℕ → ℕ → Type 0) : Type 0 where
  pub none : (t u : ℕ) → IsPair t u → IsFresh b (term_at ns t) (term_at ns u) → ⊥

-- the instance for such a pair, in an extended pool
pub record IsFreshPair (ns ms : List Node) (b : Branch) (IsPair : ℕ → ℕ → Type 0) (step : OrderStep) : Type 0 where
  pub left : ℕ
  pub right : ℕ
  pub is_pair : IsPair left right
  pub is_step : IsFreshStep ms b (term_at ns left) (term_at ns right) step

-- ---- pairs of numbers

pub record AreMarked (marks : List Bool) (terms marked : List ℕ) : Type 0 where
  pub each : (t : ℕ) → Contains marked t ↔ (Contains terms t × (mark_at marks t ≡ true))

-- this entry states that the numbers differ
pub record IsDeniedAt (ns : List Node) (b : Branch) (i : ℕ) (p : ℕ × ℕ) : Type 0 where
  pub sides : DeniesSides ns b i p
  pub numbers : AreNumbers b (term_at ns p.0) (term_at ns p.1)

pub record NoneDeniedAt (ns : List Node) (b : Branch) (i : ℕ) : Type 0 where
  pub none : (p : ℕ × ℕ) → IsDeniedAt ns b i p → ⊥

-- some entry states that the numbers differ
pub record IsDeniedPair (ns : List Node) (b : Branch) (p : ℕ × ℕ) : Type 0 where
  pub position : ℕ
  pub at : IsDeniedAt ns b position p

pub record AreDeniedPairs (ns : List Node) (b : Branch) (pairs : List (ℕ × ℕ)) : Type 0 where
  pub each : (p : ℕ × ℕ) → Contains pairs p ↔ IsDeniedPair ns b p

-- both are numbers, and indexes of aliasing memories or vectors
pub record IsNumberPair (ns : List Node) (b : Branch) (t u : ℕ) : Type 0 where
  pub left : IsBranchTerm ns b t
  pub right : IsBranchTerm ns b u
  pub indexes : AreIndexes b (term_at ns t) (term_at ns u)
  pub numbers : AreNumbers b (term_at ns t) (term_at ns u)

pub record AreNumberPositions (ns : List Node) (b : Branch) (all : List Position) (lists : List (ℕ × List ℕ)) : Type 0 where
  pub each : (t u : ℕ) → IsInGroup all lists t u ↔ IsNumberPair ns b t u
