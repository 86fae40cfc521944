-- Bounds for the values of a branch's rows: branch and bound splits on a number whose value is not whole (A. Schrijver,
-- Theory of Linear and Integer Programming, section 24.1).
use Rattle.std.specs.Prelude.{◌≡◌, ℕ, pos, ◌+ℤ◌, List, ◌∷◌, ◌++◌, slice_get, Option, Some, None, All}
use Rattle.base.specs.TypeData.{NumType}
use Rattle.fol.specs.FormulaData.{TermData, IsFormula}
use Rattle.linear_arith.specs.declared.rows.Fraction.{Fraction}
use Rattle.term_pool.specs.declared.node.Node.{Node}
use Rattle.certificates.specs.BranchesBranch.{Branch, Says}
use Rattle.certificates.specs.Rows.{IsWholeValue, IsWholeIfNumber}
use Rattle.certificates.specs.ProofTraces.{IsBetween}
use Rattle.tableau.specs.PoolBranches.{IsTermNumber}
use Rattle.row_reasoning.specs.Numbers.{term_at}
use Rattle.row_reasoning.specs.declared.values.bounds.Bound.{Bound}
use Rattle.row_reasoning.specs.declared.values.numbers.NumberEntry.{NumberEntry}

-- the first value, in the order in which the values were chosen, that is not whole although its class has a number; the
-- entry states that the term is a whole number, and the value lies between `below` and the next number
pub record IsBound (ns : List Node) (b : Branch) (class : TermData → ℕ) (classes : List ℕ) (values : List Fraction) (bound : Bound) : Type 0 where
  pub number : IsTermNumber ns bound.term
  pub says : Says b bound.entry (IsFormula NumType (term_at ns bound.term))
  pub before : List Fraction
  pub value : Fraction
  pub after : List Fraction
  pub parts : values ≡ before ++ value ∷ after
  pub whole_before : All (IsWholeIfNumber b class classes) before
  pub of_term : slice_get classes value.unknown ≡ Some (class (term_at ns bound.term))
  pub between : IsBetween bound.below value
  pub next : bound.above ≡ bound.below +ℤ pos 1

-- ---- one value

-- the value requires no bound: it has no class, its class has no number, or it is whole
pub data AsksNone (found : ℕ → Option NumberEntry) (classes : List ℕ) (value : Fraction) : Type 0 where
  HasNoClass : slice_get classes value.unknown ≡ None → AsksNone found classes value
  HasNoNumber : (name : ℕ) → slice_get classes value.unknown ≡ Some name → found name ≡ None → AsksNone found classes value
  IsWhole : IsWholeValue value → AsksNone found classes value

-- the value requires this bound
pub record AsksBound (found : ℕ → Option NumberEntry) (classes : List ℕ) (value : Fraction) (bound : Bound) : Type 0 where
  pub name : ℕ
  pub entry : NumberEntry
  pub has_class : slice_get classes value.unknown ≡ Some name
  pub has_number : found name ≡ Some entry
  pub same_entry : bound.entry ≡ entry.entry
  pub same_term : bound.term ≡ entry.term
  pub between : IsBetween bound.below value
  pub next : bound.above ≡ bound.below +ℤ pos 1

-- the first value that requires a bound requires this one
pub record IsFirstAsked (found : ℕ → Option NumberEntry) (classes : List ℕ) (values : List Fraction) (bound : Bound) : Type 0 where
  pub before : List Fraction
  pub value : Fraction
  pub after : List Fraction
  pub parts : values ≡ before ++ value ∷ after
  pub none_before : All (AsksNone found classes) before
  pub asks : AsksBound found classes value bound
