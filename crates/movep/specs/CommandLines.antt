-- The words of a command line, and what is read of them.
use Rattle.std.specs.Prelude.{◌≡◌, ℕ, ◌≤◌, List, length, slice_get, Option, Some, None, Result, Err}
use Rattle.std.specs.declared.env.FillError.{FillError}
use Rattle.std.specs.declared.env.FillError.TheVariants.{NotPresent}

-- where there is no such word
abbrev pub OnMissing : Result ℕ FillError → Type 0 → Type 0
OnMissing (Err NotPresent) P = P
OnMissing _ P = Unit {0}

-- the word with this number, or none where the words end before it
abbrev pub IsWordAt : List (List ℕ) → ℕ → Option (List ℕ) → Type 0
IsWordAt ws number (Some word) = slice_get ws number ≡ Some word
IsWordAt ws number None = length ws ≤ number
