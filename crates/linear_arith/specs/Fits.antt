-- The integers that fit 128 bits.
use Rattle.std.specs.Prelude.{ℕ, ◌^◌, ◌-◌, pos, negsuc, ◌<ℤ◌}
use Rattle.std.proofs.Common.{ℤ}
use Rattle.linear_arith.specs.Inequality.{Inequality, coefficient}

-- the absolute value is below 2^127, so that the negation fits too
abbrev pub Fits : ℤ → Type 0
Fits z = (negsuc (2 ^ 127 - 1) <ℤ z) × (z <ℤ pos (2 ^ 127))

-- all numbers of a constraint fit
abbrev pub IsFitting : Inequality → Type 0
IsFitting row = ((unknown : ℕ) → Fits (coefficient unknown row)) × Fits row.bound
