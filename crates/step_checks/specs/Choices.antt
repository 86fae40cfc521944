-- Bounds on one unknown, and the value chosen between them.
use Rattle.std.specs.Prelude.{◌≡◌, ◌≢◌, ℕ, ◌≤◌, List, pos, ◌*ℤ◌, ◌≤ℤ◌, ◌<ℤ◌, All, Contains, unsigned_abs}
use Rattle.std.specs.Int.{IsGcd}
use Rattle.std.proofs.Common.{ℤ}
use Rattle.linear_arith.specs.Closure.{IsWithout}
use Rattle.linear_arith.specs.Inequality.{Inequality, coefficient}
use Rattle.linear_arith.specs.declared.rows.Fraction.{Fraction}
use Rattle.linear_arith.specs.Rest.{IsRest}
use Rattle.step_checks.specs.declared.elimination.bounds.Bound.{Bound}

-- coefficient times p/q is at most the bound
abbrev pub IsMetAt : ℤ → ℤ → Bound → Type 0
IsMetAt p q b = (b.coefficient *ℤ p) ≤ℤ (b.bound *ℤ q)

abbrev pub AreMetAt : List Bound → ℤ → ℤ → Type 0
AreMetAt bounds p q = All (IsMetAt p q) bounds

-- coefficient times p/q is the bound
abbrev pub IsReachedAt : ℤ → ℤ → Bound → Type 0
IsReachedAt p q b = p *ℤ b.coefficient ≡ b.bound *ℤ q

pub record HasReached (bounds : List Bound) (p q : ℤ) : Type 0 where
  pub bound : Bound
  pub is_in : Contains bounds bound
  pub is_reached : IsReachedAt p q bound

-- no whole number that satisfies the bounds is nearer to 0
abbrev pub IsNearest : List Bound → ℤ → Type 0
IsNearest bounds p = (z : ℤ) → AreMetAt bounds z (pos 1) → unsigned_abs p ≤ unsigned_abs z

abbrev pub HasNoWhole : List Bound → Type 0
HasNoWhole bounds = (z : ℤ) → AreMetAt bounds z (pos 1) → ⊥

-- if some whole number satisfies the bounds, the value is the nearest one to 0 that does; otherwise it is one of the
-- bounds, in lowest terms, and satisfies them all
pub data IsBetween (bounds : List Bound) (value : Fraction) : Type 0 where
  whole : value.denominator ≡ pos 1 → AreMetAt bounds value.numerator (pos 1) → IsNearest bounds value.numerator → IsBetween bounds value
  bound : HasNoWhole bounds → pos 0 <ℤ value.denominator → IsGcd (unsigned_abs value.numerator) (unsigned_abs value.denominator) 1 → AreMetAt bounds value.numerator value.denominator → HasReached bounds value.numerator value.denominator → IsBetween bounds value

-- the bound from a row without the unknowns of `before`, after substitution of the values, where the unknown is left
pub record IsBoundOf (before : List ℕ) (values : List Fraction) (unknown : ℕ) (row : Inequality) (bound : Bound) : Type 0 where
  pub without : IsWithout before row
  pub rest : Inequality
  pub is_rest : IsRest row values rest
  pub stands : coefficient unknown rest ≢ pos 0
  pub same_coefficient : bound.coefficient ≡ coefficient unknown rest
  pub same_bound : bound.bound ≡ rest.bound

-- the bound is that of one of the rows
pub record IsGiven (found : List Inequality) (before : List ℕ) (values : List Fraction) (unknown : ℕ) (bound : Bound) : Type 0 where
  pub row : Inequality
  pub is_found : Contains found row
  pub is_bound : IsBoundOf before values unknown row bound

-- all bounds that the rows give
pub record AreBounds (found : List Inequality) (before : List ℕ) (values : List Fraction) (unknown : ℕ) (bounds : List Bound) : Type 0 where
  pub each : (bound : Bound) → Contains bounds bound → IsGiven found before values unknown bound
  pub all : (bound : Bound) → IsGiven found before values unknown bound → Contains bounds bound
