-- Natural numbers by their digits, the least significant one first. Each digit counts 2^64 times the one before it.
use Rattle.std.specs.Prelude.{ℕ, ◌+◌, ◌*◌, ◌^◌, List, [], ◌∷◌}

abbrev pub number_of : List ℕ → ℕ
number_of [] = 0
number_of (d ∷ ds) = d + 2 ^ 64 * number_of ds
