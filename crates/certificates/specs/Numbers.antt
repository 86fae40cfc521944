-- Numbers as bytes, the most significant first.
use Rattle.std.specs.Prelude.{ℕ, zero, suc, ◌-◌, ◌/◌, ◌%◌, ◌^◌, ℤ, pos, negsuc, List, [], ◌∷◌, ◌++◌, length}

-- the last k digits of n in base 256
abbrev pub number_bytes : ℕ → ℕ → List ℕ
number_bytes zero n = []
number_bytes (suc k) n = (n / 256 ^ k) % 256 ∷ number_bytes k n

-- counts, indices and the numbers of variables, axioms and fields have 4 bytes
abbrev pub index_bytes : ℕ → List ℕ
index_bytes n = number_bytes 4 n

-- addresses, and numerals that 128 bits hold only without a sign, have 16 bytes
abbrev pub wide_bytes : ℕ → List ℕ
wide_bytes n = number_bytes 16 n

-- a whole number of 128 bits in two's complement
abbrev pub whole_bytes : ℤ → List ℕ
whole_bytes (pos n) = number_bytes 16 n
whole_bytes (negsuc n) = number_bytes 16 (2 ^ 128 - suc n)

-- a name is the number of its bytes, followed by the bytes
abbrev pub name_bytes : List ℕ → List ℕ
name_bytes name = index_bytes (length name) ++ name
