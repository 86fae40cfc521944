use Rattle.std.proofs.Common.{ℕ, List, map, take}
use Rattle.typing_rules.specs.Flows.{quiet}
use Rattle.typing_rules.specs.Pieces.{Piece, in_order, piece_at}
use Rattle.definite_assignment.specs.Shown.{Shows}
use Rattle.definite_assignment.specs.Summaries.{AllStand}
use Rattle.definite_assignment.proofs.forms.in_order.Given as goal

abbrev pub invariant-loop-part : goal.invariant-loop-part
invariant-loop-part l = (base : ℕ) (done : List Piece) → AllStand base l.summaries done → Shows base l.effects (in_order quiet (map (piece_at done) (take l.part-index l.parts)))
