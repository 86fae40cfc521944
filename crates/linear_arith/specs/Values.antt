-- The values of the unknowns after an elimination, chosen last unknown first.
use Rattle.std.specs.Prelude.{◌≡◌, ◌≢◌, ℕ, ◌<◌, ◌≤◌, List, [], ◌∷◌, ◌++◌, pos, ◌*ℤ◌, ◌≤ℤ◌, ◌<ℤ◌, All, Contains, unsigned_abs}
use Rattle.std.specs.Int.{IsGcd}
use Rattle.std.specs.List.{AllPairs}
use Rattle.std.proofs.Common.{ℤ}
use Rattle.linear_arith.specs.Closure.{IsWithout, IsCompleteElimination}
use Rattle.linear_arith.specs.Inequality.{Inequality, coefficient}
use Rattle.linear_arith.specs.declared.rows.Fraction.{Fraction}
use Rattle.linear_arith.specs.Rest.{IsRest}

-- an unknown has a value
pub record HasValue (values : List Fraction) (unknown : ℕ) : Type 0 where
  pub value : Fraction
  pub is_in : Contains values value
  pub same : value.unknown ≡ unknown

abbrev pub HasNoValue : List Fraction → ℕ → Type 0
HasNoValue values unknown = All (λ (value : Fraction). value.unknown ≢ unknown) values

-- the constraint `rest` on the unknown that a constraint of the stage after the unknowns of `before` becomes after the
-- substitution of the values so far
pub record IsBounding (found : List Inequality) (before : List ℕ) (values : List Fraction) (unknown : ℕ) (rest : Inequality) : Type 0 where
  pub row : Inequality
  pub is_found : Contains found row
  pub without : IsWithout before row
  pub is_rest : IsRest row values rest
  pub stands : coefficient unknown rest ≢ pos 0

-- p/q meets the bounds of the constraints after the substitution of the values so far
abbrev pub MeetsBounds : List Inequality → List ℕ → List Fraction → ℕ → ℤ → ℤ → Type 0
MeetsBounds found before values unknown p q = (rest : Inequality) → IsBounding found before values unknown rest → (coefficient unknown rest *ℤ p) ≤ℤ (rest.bound *ℤ q)

-- where an integer meets the bounds, the value is the integer nearest to 0 that does: 0, or the one nearest to a bound;
-- otherwise it is a bound, in lowest terms
pub data IsChosen (found : List Inequality) (before : List ℕ) (values : List Fraction) (value : Fraction) : Type 0 where
  whole : value.denominator ≡ pos 1 → MeetsBounds found before values value.unknown value.numerator (pos 1) → ((z : ℤ) → MeetsBounds found before values value.unknown z (pos 1) → unsigned_abs value.numerator ≤ unsigned_abs z) → IsChosen found before values value
  bound : ((z : ℤ) → MeetsBounds found before values value.unknown z (pos 1) → ⊥) → pos 0 <ℤ value.denominator → IsGcd (unsigned_abs value.numerator) (unsigned_abs value.denominator) 1 → MeetsBounds found before values value.unknown value.numerator value.denominator → (rest : Inequality) → IsBounding found before values value.unknown rest → value.numerator *ℤ coefficient value.unknown rest ≡ rest.bound *ℤ value.denominator → IsChosen found before values value

-- values in the order in which they are chosen, those of the unknowns that are eliminated in this order, the last one
-- first; those of the unknowns of `before` are not chosen yet. An unknown that none of the stages eliminates, since it
-- is in no constraint that is left, is 0. No unknown has two values.
pub data AreValues (found : List Inequality) (unknowns : List ℕ) : List ℕ → List Fraction → Type 0 where
  begun : AreValues found unknowns unknowns []
  idle : (before : List ℕ) (values : List Fraction) (value : Fraction) → AreValues found unknowns before values → HasNoValue values value.unknown → (Contains unknowns value.unknown → ⊥) → value.numerator ≡ pos 0 → value.denominator ≡ pos 1 → AreValues found unknowns before (values ++ value ∷ [])
  next : (before : List ℕ) (values : List Fraction) (value : Fraction) → AreValues found unknowns (before ++ value.unknown ∷ []) values → HasNoValue values value.unknown → IsChosen found before values value → AreValues found unknowns before (values ++ value ∷ [])

-- values chosen so far after a complete elimination
pub record IsChoosing (rows : List Inequality) (values : List Fraction) : Type 0 where
  pub complete : IsCompleteElimination rows
  pub different : AllPairs (λ first second. first ≢ second) complete.unknowns
  pub before : List ℕ
  pub are_values : AreValues complete.found complete.unknowns before values

-- values of all unknowns
pub record AreAllChosen (rows : List Inequality) (values : List Fraction) : Type 0 where
  pub choosing : IsChoosing rows values
  pub none_before : choosing.before ≡ []
  pub covered : (unknown : ℕ) → unknown < choosing.complete.width → HasValue values unknown
