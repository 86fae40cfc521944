-- Variables that are free in neither of two terms.
use Rattle.std.specs.Prelude.{◌≡◌, ◌⊎◌, ℕ, true, false}
use Rattle.fol.specs.FormulaData.{TermData}
use Rattle.substitution.specs.Free.{free_in_term}
use Rattle.certificates.specs.Due.{IsVariable}
use Rattle.certificates.specs.Table.{IsLeastFresh}

-- each variable is free in one of the terms
pub record HasNoFresh (t u : TermData) : Type 0 where
  pub each : (n : ℕ) → IsVariable n → (free_in_term n t ≡ true) ⊎ (free_in_term n u ≡ true)

-- some variable is free in neither
pub record HasFresh (t u : TermData) : Type 0 where
  pub number : ℕ
  pub is_variable : IsVariable number
  pub not_left : free_in_term number t ≡ false
  pub not_right : free_in_term number u ≡ false

-- the least number of a variable that is free in neither
pub record IsFresh (t u : TermData) (n : ℕ) : Type 0 where
  pub least : IsLeastFresh n t u
  pub is_variable : IsVariable n
