-- Sparse lists of numbers: the numbers other than 0, each with the number of zeros before it.
use Rattle.std.specs.Prelude.{◌≡◌, ℕ, List, [], ◌∷◌, ◌++◌, pos, replicate}
use Rattle.std.proofs.Common.{ℤ}
use Rattle.linear_arith.specs.Combination.{number}
use Rattle.linear_arith.specs.declared.packed.Entry.{Entry}

-- the list of these entries, with the zeros before each
abbrev pub spread : List Entry → List ℤ
spread [] = []
spread (entry ∷ entries) = replicate entry.zeros (pos 0) ++ entry.number ∷ spread entries

-- the same with another number of zeros before the first
abbrev pub ahead : ℕ → List Entry → List ℤ
ahead count [] = []
ahead count (entry ∷ entries) = replicate count (pos 0) ++ entry.number ∷ spread entries

-- 1 is in the list
pub record HasOne (numbers : List ℤ) : Type 0 where
  pub position : ℕ
  pub is_one : number position numbers ≡ pos 1
