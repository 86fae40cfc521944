-- The meaning of summaries of pieces of code.
use Rattle.std.specs.Prelude.{◌≡◌, ℕ, List, length, Some, slice_get}
use Rattle.typing_rules.specs.Pieces.{Piece, piece_at}
use Rattle.definite_assignment.specs.declared.summary.Summary.{Summary}
use Rattle.definite_assignment.specs.Shown.{Shows, Means}

pub record Stands (base : ℕ) (summary : Summary) (piece : Piece) : Type 0 where
  pub flow : Shows base summary.effects piece.flow
  pub binds : Means base summary.binds piece.binds
  pub local : summary.local ≡ piece.local

-- each summary is that of the piece with its number
pub record AllStand (base : ℕ) (summaries : List Summary) (pieces : List Piece) : Type 0 where
  pub same : length summaries ≡ length pieces
  pub each : (k : ℕ) (s : Summary) → slice_get summaries k ≡ Some s → Stands base s (piece_at pieces k)
