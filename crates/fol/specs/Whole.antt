-- Arithmetic of integers. Each operator is total.
use Rattle.std.specs.Prelude.{ℕ, zero, suc, ◌*◌, ◌/◌, ◌%◌, ◌^◌, ℤ, pos, negsuc, ◌-ℤ◌, ◌*ℤ◌, nat_lt, if◌then◌else◌}
use Rattle.base.specs.declared.types.Width.{Width}
use Rattle.base.specs.declared.types.Width.TheVariants.{U8, U16, U32, U64, U128}

-- the number of bits of the width
abbrev pub bits_of : Width → ℕ
bits_of U8 = 8
bits_of U16 = 16
bits_of U32 = 32
bits_of U64 = 64
bits_of U128 = 128

-- the quotient, rounded down: for u from 1 the greatest integer whose product with u is at most t; for u below 0 that
-- of -t and -u; for u = 0 it is 0
abbrev pub quotient : ℤ → ℤ → ℤ
quotient t (pos zero) = pos 0
quotient (pos a) (pos (suc b)) = pos (a / suc b)
quotient (negsuc a) (pos (suc b)) = negsuc (a / suc b)
quotient (pos zero) (negsuc b) = pos 0
quotient (pos (suc a)) (negsuc b) = negsuc (a / suc b)
quotient (negsuc a) (negsuc b) = pos (suc a / suc b)

-- the remainder of the quotient
abbrev pub remainder : ℤ → ℤ → ℤ
remainder t u = t -ℤ u *ℤ quotient t u

-- a bitwise operator at two numbers from 0, and 0 at any other
abbrev pub bitwise : (ℕ → ℕ → ℕ) → ℤ → ℤ → ℤ
bitwise op (pos a) (pos b) = pos (op a b)
bitwise op (pos a) (negsuc b) = pos 0
bitwise op (negsuc a) b = pos 0

-- the left shift of a number of the width: bits beyond the width are lost, and a shift by the width or more gives 0
abbrev pub shifted_left : Width → ℕ → ℕ → ℕ
shifted_left w a s = if nat_lt s (bits_of w) then (a * 2 ^ s) % 2 ^ bits_of w else 0

abbrev pub shifted_right : Width → ℕ → ℕ → ℕ
shifted_right w a s = if nat_lt s (bits_of w) then a / 2 ^ s else 0
