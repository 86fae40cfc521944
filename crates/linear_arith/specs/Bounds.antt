-- The bounds of an unknown.
use Rattle.std.specs.Prelude.{◌≡◌, ◌≢◌, ◌≤◌, List, pos, ◌*ℤ◌, ◌≤ℤ◌, ◌<ℤ◌, All, Contains, unsigned_abs, ◌^◌, ◌-◌}
use Rattle.std.specs.Int.{IsGcd}
use Rattle.std.proofs.Common.{ℤ}
use Rattle.linear_arith.specs.Fits.{Fits}
use Rattle.linear_arith.specs.declared.rows.Fraction.{Fraction}
use Rattle.linear_arith.specs.declared.bounds.Bound.{Bound}
use Rattle.linear_arith.specs.declared.bounds.Side.{Side}
use Rattle.linear_arith.specs.declared.bounds.Side.TheVariants.{Upper, Lower}

-- coefficient times p/q is at most the bound
abbrev pub IsMetAt : ℤ → ℤ → Bound → Type 0
IsMetAt p q b = (b.coefficient *ℤ p) ≤ℤ (b.bound *ℤ q)

-- an upper bound has a coefficient above 0, a lower one below
abbrev pub IsOn : Side → Bound → Type 0
IsOn Upper b = pos 0 <ℤ b.coefficient
IsOn Lower b = b.coefficient <ℤ pos 0

abbrev pub AreNonzero : List Bound → Type 0
AreNonzero bounds = All (λ b. b.coefficient ≢ pos 0) bounds

-- the first bound is at least as tight as the second, on the same side
abbrev pub IsAsTight : Bound → Bound → Type 0
IsAsTight first second = (first.bound *ℤ pos (unsigned_abs second.coefficient)) ≤ℤ (second.bound *ℤ pos (unsigned_abs first.coefficient))

-- one of the bounds of a side, at least as tight as each other one
pub record IsTightest (side : Side) (bounds : List Bound) (tightest : Bound) : Type 0 where
  pub member : Contains bounds tightest
  pub on_side : IsOn side tightest
  pub as_tight : All (λ b. IsOn side b → IsAsTight tightest b) bounds

-- each upper bound is at least each lower bound
abbrev pub AreConsistent : List Bound → Type 0
AreConsistent bounds =
    All (λ upper. IsOn Upper upper → All (λ lower. IsOn Lower lower → (lower.coefficient *ℤ upper.bound) ≤ℤ (upper.coefficient *ℤ lower.bound)) bounds) bounds

-- a lower bound is met by the greatest integer of 128 bits
abbrev pub IsReached : Bound → Type 0
IsReached b = IsOn Lower b → IsMetAt (pos (2 ^ 127 - 1)) (pos 1) b

abbrev pub AreWithinReach : List Bound → Type 0
AreWithinReach bounds = All IsReached bounds

-- the numbers of the bound fit
abbrev pub FitsBound : Bound → Type 0
FitsBound b = Fits b.coefficient × Fits b.bound

abbrev pub AreMet : List Bound → ℤ → Type 0
AreMet bounds z = All (IsMetAt z (pos 1)) bounds

-- where an integer meets the bounds, the value is the one nearest to 0 that does; otherwise it is one of the bounds, in
-- lowest terms
pub data IsBetween (bounds : List Bound) (value : Fraction) : Type 0 where
  whole : value.denominator ≡ pos 1 → AreMet bounds value.numerator → ((z : ℤ) → AreMet bounds z → unsigned_abs value.numerator ≤ unsigned_abs z) → IsBetween bounds value
  bound : ((z : ℤ) → AreMet bounds z → ⊥) → IsGcd (unsigned_abs value.numerator) (unsigned_abs value.denominator) 1 → (b : Bound) → Contains bounds b → value.numerator *ℤ b.coefficient ≡ b.bound *ℤ value.denominator → IsBetween bounds value
