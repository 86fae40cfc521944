-- Tables of the states in which nodes are entered.
use Rattle.std.specs.Prelude.{◌≡◌, ℕ, ◌+◌, ◌<◌, Bool, false, ◌&&◌, ◌||◌, eqb, ltb, List, length, slice_index_or}
use Rattle.definite_assignment.specs.declared.outcome.Ends.{Ends}
use Rattle.definite_assignment.specs.LocalEffects.{same}
use Rattle.definite_assignment.specs.Views.{is_in}
use Rattle.definite_assignment.specs.Entries.{Entry, given}

-- no state of any local
abbrev pub nowhere : Ends
nowhere = record { lacking = record { bits = 0 }; having = record { bits = 0 } }

-- whether the node with the number n is entered in this state of the local with this position
abbrev pub begun : List Ends → ℕ → ℕ → Bool → Bool
begun table i n state = is_in (slice_index_or table n nowhere) state i

-- states in which parts are entered are added to the table
pub record Gains (i : ℕ) (entries : List Entry) (old new : List Ends) : Type 0 where
  pub same_length : length new ≡ length old
  pub each : (n : ℕ) (state : Bool) → begun new i n state ≡ (begun old i n state || given entries n state)

-- a table of so many nodes, none of which is entered
pub record IsUnreached (count : ℕ) (table : List Ends) : Type 0 where
  pub same_length : length table ≡ count
  pub each : (i n : ℕ) (state : Bool) → begun table i n state ≡ false

-- a table of so many nodes, the last of which is entered at the start of a body: exactly the parameters have values
pub record BeginsAtEnd (base parameters count : ℕ) (table : List Ends) : Type 0 where
  pub same_length : length table ≡ count
  pub each : (i n : ℕ) (state : Bool) → i < 64 → begun table i n state ≡ (eqb (n + 1) count && same (ltb (base + i) parameters) state)
