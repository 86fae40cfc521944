use Rattle.std.proofs.Common.{ℕ, List, map, take}
use Rattle.typing_rules.specs.Pieces.{Piece, all_binds, piece_at}
use Rattle.definite_assignment.specs.Shown.{Means}
use Rattle.definite_assignment.specs.Summaries.{AllStand}
use Rattle.definite_assignment.proofs.forms.all_binds.Given as goal

abbrev pub invariant-loop-part : goal.invariant-loop-part
invariant-loop-part l = (base : ℕ) (done : List Piece) → AllStand base l.summaries done → Means base l.binds (all_binds (map (piece_at done) (take l.part-index l.parts)))
