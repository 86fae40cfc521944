-- Cuts that are due, by number, and pairs of terms whose equality is open.
use Rattle.std.specs.Prelude.{◌≡◌, ◌≢◌, ◌⊎◌, ℕ, ◌+◌, ◌<◌, ◌≤◌, Bool, true, false, List, [], ◌∷◌, ◌++◌, Contains}
use Rattle.fol.specs.FormulaData.{TermData, EqFormula}
use Rattle.term_pool.specs.Depths.{item_depth}
use Rattle.term_pool.specs.Pools.{item_at}
use Rattle.term_pool.specs.declared.node.Node.{Node}
use Rattle.certificates.specs.BranchesBranch.{Branch}
use Rattle.certificates.specs.Due.{CutDue}
use Rattle.tableau.specs.PoolBranches.{IsTermNumber}
use Rattle.congruence_closure.specs.Known.{BranchClassesData, IsKnown, class_of}
use Rattle.tableau.specs.Numbers.{IsNumberOf}
use Rattle.base.specs.Lists.{list_in}
use Rattle.base.specs.KeyedPairs.{AreMore}
use Rattle.tableau.specs.Terms.{term_at}
use Rattle.axiom_strategy.specs.Numbers.{mark_at, AreBothMarked}
use Rattle.axiom_strategy.specs.Positions.{at_group}
use Rattle.axiom_strategy.specs.declared.decisions.positions.Position.{Position}
use Rattle.axiom_strategy.specs.declared.decisions.cuts.CutStep.{CutStep}

-- no cut is due
pub record NoCut (b : Branch) : Type 0 where
  pub none : (t u : TermData) → CutDue b t u → ⊥

-- a cut that is due
pub record IsCut (ns : List Node) (b : Branch) (step : CutStep) : Type 0 where
  pub left : IsTermNumber ns step.left
  pub right : IsTermNumber ns step.right
  pub equation : IsNumberOf ns (EqFormula (term_at ns step.left) (term_at ns step.right)) step.equation
  pub due : CutDue b (term_at ns step.left) (term_at ns step.right)

-- ---- candidates

-- the term is shallow enough for the negation of an equation with it
abbrev pub IsShallowTerm : List Node → ℕ → Type 0
IsShallowTerm ns n = item_depth (item_at ns n) + 2 ≤ 2000

abbrev pub kind_of : Bool → ℕ
kind_of true = 1
kind_of false = 0

-- the term is chosen, if none of its class and kind was seen before
pub data IsChoice (class kind term : ℕ) (found chosen : List ℕ) (seen more : List (ℕ × ℕ)) : Type 0 where
  Chosen : chosen ≡ found ++ term ∷ [] → AreMore seen more (class, kind) → IsChoice class kind term found chosen seen more
  PassedOver : chosen ≡ found → Contains seen (class, kind) → AreMore seen more (class, kind) → IsChoice class kind term found chosen seen more

-- a candidate of the same class that is marked exactly if the term is
pub record HasCandidate (c : BranchClassesData) (marks : List Bool) (candidates : List ℕ) (t : ℕ) : Type 0 where
  pub candidate : ℕ
  pub among : Contains candidates candidate
  pub same_class : class_of c candidate ≡ class_of c t
  pub same_mark : mark_at marks candidate ≡ mark_at marks t

-- shallow terms among these, with a candidate for each shallow term
pub record AreCandidates (ns : List Node) (c : BranchClassesData) (marks : List Bool) (terms candidates : List ℕ) : Type 0 where
  pub terms_are : (t : ℕ) → Contains candidates t → Contains terms t
  pub shallow : (t : ℕ) → Contains candidates t → IsShallowTerm ns t
  pub all : (t : ℕ) → Contains terms t → IsShallowTerm ns t → HasCandidate c marks candidates t

-- ---- open pairs

-- the pair of classes is in the list, in either order
abbrev pub IsDeniedEither : List (ℕ × ℕ) → ℕ → ℕ → Type 0
IsDeniedEither denied one other = Contains denied (one, other) ⊎ Contains denied (other, one)

-- the terms are of two classes, no entry states that they differ, and not both are marked
pub record IsOpen (c : BranchClassesData) (marks : List Bool) (denied : List (ℕ × ℕ)) (t u : ℕ) : Type 0 where
  pub apart : class_of c t ≢ class_of c u
  pub not_denied : IsDeniedEither denied (class_of c t) (class_of c u) → ⊥
  pub not_both : AreBothMarked marks t u → ⊥

pub record NoneOpenWith (c : BranchClassesData) (marks : List Bool) (denied : List (ℕ × ℕ)) (t : ℕ) (others : List ℕ) : Type 0 where
  pub none : (u : ℕ) → Contains others u → IsOpen c marks denied t u → ⊥

pub record IsOpenWith (c : BranchClassesData) (marks : List Bool) (denied : List (ℕ × ℕ)) (t : ℕ) (others : List ℕ) (u : ℕ) : Type 0 where
  pub among : Contains others u
  pub is_open : IsOpen c marks denied t u

-- two terms that index one group
pub record NoOpenPair (c : BranchClassesData) (marks : List Bool) (denied : List (ℕ × ℕ)) (all : List Position) (lists : List (ℕ × List ℕ)) : Type 0 where
  pub none : (group t u : ℕ) → Contains all (at_group group t) → Contains (list_in lists group) u → IsOpen c marks denied t u → ⊥

pub record IsOpenPair (c : BranchClassesData) (marks : List Bool) (denied : List (ℕ × ℕ)) (all : List Position) (lists : List (ℕ × List ℕ)) (pair : ℕ × ℕ) : Type 0 where
  pub group : ℕ
  pub one : Contains all (at_group group pair.0)
  pub other : Contains (list_in lists group) pair.1
  pub is_open : IsOpen c marks denied pair.0 pair.1

-- the term is known, and its number is below the count
pub record IsKnownBelow (c : BranchClassesData) (count t : ℕ) : Type 0 where
  pub known : IsKnown c t
  pub below : t < count

pub record AreAllKnown (c : BranchClassesData) (count : ℕ) (all : List Position) (lists : List (ℕ × List ℕ)) : Type 0 where
  pub positions : (group t : ℕ) → Contains all (at_group group t) → IsKnownBelow c count t
  pub by_group : (group t : ℕ) → Contains (list_in lists group) t → IsKnownBelow c count t
