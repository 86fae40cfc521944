use Rattle.std.proofs.Common.{◌≡◌, ◌+◌, ◌<◌, ℕ, List, length, take}
use Rattle.typing_rules.specs.Pieces.{Piece}
use Rattle.definite_assignment.specs.Summaries.{AllStand}
use Rattle.definite_assignment.specs.Views.{is_in}
use Rattle.definite_assignment.proofs.Tabled.{Ordered}
use Rattle.definite_assignment.proofs.points.entering.enter_in_order.Given as goal

abbrev pub invariant-loop-part : goal.invariant-loop-part
invariant-loop-part l = record {
  same : length l.table ≡ length l.fn.table;
  ordered : (i : ℕ) (base : ℕ) (pieces : List Piece) → i < 64 → AllStand base l.summaries pieces → Ordered i (base + i) pieces (take l.part-index l.parts) (λ s. is_in l.fn.states s i) l.now l.fn.table l.table;
}
