-- Decisions: pairs of terms for which the search determines whether they are equal.
use Rattle.std.specs.Prelude.{◌⊎◌, []}
use Rattle.base.specs.TypeData.{NumType}
use Rattle.fol.specs.FormulaData.{TermData, PopTerm, PushTerm, StoreTerm, SetTerm, FormulaData, EqFormula, IsFormula, NotFormula}
use Rattle.certificates.specs.BranchesBranch.{Branch, Stands, IsTerm}
use Rattle.certificates.specs.Joined.{Joined, IsAlike, IsSelected, IsItemRead}

-- aliasing (overlapping) memories or vectors: those of one class, and those related by updates
pub data IsNear (b : Branch) : TermData → TermData → Type 0 where
  OfOneClass : (m n : TermData) → Joined b m n → IsNear b m n
  ByStore : (m a v : TermData) → IsTerm b (StoreTerm m a v) → IsNear b (StoreTerm m a v) m
  BySet : (v i x : TermData) → IsTerm b (SetTerm v i x) → IsNear b (SetTerm v i x) v
  ByPush : (v x : TermData) → IsTerm b (PushTerm v x) → IsNear b (PushTerm v x) v
  ByPop : (v : TermData) → IsTerm b (PopTerm v) → IsNear b (PopTerm v) v
  Turned : (m n : TermData) → IsNear b m n → IsNear b n m
  Chained : (l m n : TermData) → IsNear b l m → IsNear b m n → IsNear b l n

-- the term is an index of a memory or a vector
abbrev pub IsIndex : Branch → TermData → TermData → Type 0
IsIndex b m t = IsSelected b m t ⊎ IsItemRead b m t

-- two terms of the branch are indices of aliasing memories or vectors
pub record AreIndexes (b : Branch) (t u : TermData) : Type 0 where
  pub one : TermData
  pub other : TermData
  pub index : IsIndex b one t
  pub other_index : IsIndex b other u
  pub near : IsNear b one other
  pub is_term : IsTerm b t
  pub is_other_term : IsTerm b u

-- a decision on two terms is triggered: they are such indices, or an entry states that they differ
abbrev pub AsksDecision : Branch → TermData → TermData → Type 0
AsksDecision b t u = AreIndexes b t u ⊎ Stands b (NotFormula (EqFormula t u))

-- entries state that both are whole numbers
pub record AreNumbers (b : Branch) (t u : TermData) : Type 0 where
  pub left : Stands b (IsFormula NumType t)
  pub right : Stands b (IsFormula NumType u)

-- an entry denies that the terms are equal, up to classes, in either order of the sides
pub record IsDenied (b : Branch) (t u : TermData) : Type 0 where
  pub formula : FormulaData
  pub stands : Stands b (NotFormula formula)
  pub alike : IsAlike b [] formula (EqFormula t u) ⊎ IsAlike b [] formula (EqFormula u t)

-- it is undecided whether the terms are equal
pub record IsUndecided (b : Branch) (t u : TermData) : Type 0 where
  pub not_joined : Joined b t u → ⊥
  pub not_denied : IsDenied b t u → ⊥
