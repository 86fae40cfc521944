-- The state of a sink in memory, and when it refuses a write.
use Rattle.std.specs.Prelude.{ℕ, ◌+◌, ◌-◌, ◌^◌, ◌<◌, ◌≤◌, ◌⊎◌, List, length, min, Contains}

-- the bytes taken, the room for bytes in all, the numbers of the writes that fail, the number of writes, and the number
-- of failed ones
pub record SinkState : Type 0 where
  pub taken : List ℕ
  pub room : ℕ
  pub fails : List ℕ
  pub calls : ℕ
  pub faults : ℕ

-- one more, up to the greatest count
abbrev pub counted : ℕ → ℕ
counted n = min (n + 1) (2 ^ 64 - 1)

-- The next write of this piece fails: its number is one of those that fail, or no byte of the piece fits.
abbrev pub Refuses : SinkState → List ℕ → Type 0
Refuses sink piece = Contains sink.fails (counted sink.calls) ⊎ ((0 < length piece) × (sink.room ≤ length sink.taken))
