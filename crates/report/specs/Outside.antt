-- What the verifier requires of its environment, as used in its contracts.
use Rattle.std.specs.Prelude.{◌≡◌, ℕ, ◌^◌, ◌-◌, ◌<◌, ◌⊎◌, List, length}
use Rattle.std.specs.Prelude.{IsSomeAnd}
use Rattle.std.specs.FinMap as map
use Rattle.std.specs.Ordering.{nat_cmp}
use Rattle.std.specs.Cmp.Lexicographic.{slice_cmp}
use Rattle.report.specs.declared.outside.Fetched.{Fetched}
use Rattle.report.specs.declared.outside.Fetched.TheVariants.{Whole, Failed as fetch_failed, TooLong}
use Rattle.report.specs.declared.outside.Wrote.{Wrote}
use Rattle.report.specs.declared.outside.Wrote.TheVariants.{Taken, Failed}

-- Faults are counted up to 2^64 - 1: one was counted, or the count is at its maximum.
abbrev pub HasFaulted : ℕ → ℕ → Type 0
HasFaulted old new = (old < new) ⊎ (new ≡ 2 ^ 64 - 1)

-- files by their names, each as its bytes
abbrev pub Files : Type 0
Files = map.FinMap (slice_cmp nat_cmp) (List ℕ)

-- the map has a file with this name that is longer than the limit
abbrev pub IsLongFile : Files → List ℕ → ℕ → Type 0
IsLongFile files name limit = IsSomeAnd (map.get files name) (λ bytes. limit < length bytes)

-- a fact for one result of a fetch
abbrev pub OnWhole : Fetched → Type 0 → Type 0
OnWhole Whole P = P
OnWhole _ P = Unit {0}

abbrev pub OnTooLong : Fetched → Type 0 → Type 0
OnTooLong TooLong P = P
OnTooLong _ P = Unit {0}

-- a fetch that got a result from the source reports that the file is too long exactly if P holds
abbrev pub SaysTooLong : Fetched → Type 0 → Type 0
SaysTooLong TooLong P = P
SaysTooLong Whole P = ¬ P
SaysTooLong _ P = Unit {0}

abbrev pub OnFetchFailed : Fetched → Type 0 → Type 0
OnFetchFailed fetch_failed P = P
OnFetchFailed _ P = Unit {0}

-- a fact for every other result
abbrev pub UnlessWhole : Fetched → Type 0 → Type 0
UnlessWhole Whole P = Unit {0}
UnlessWhole _ P = P

abbrev pub UnlessFetchFailed : Fetched → Type 0 → Type 0
UnlessFetchFailed fetch_failed P = Unit {0}
UnlessFetchFailed _ P = P

-- a fact for one result of a write, on the number of bytes taken
abbrev pub IfTaken : Wrote → (ℕ → Type 0) → Type 0
IfTaken (Taken count) P = P count
IfTaken Failed P = Unit {0}

abbrev pub OnWriteFailed : Wrote → Type 0 → Type 0
OnWriteFailed (Taken count) P = Unit {0}
OnWriteFailed Failed P = P
