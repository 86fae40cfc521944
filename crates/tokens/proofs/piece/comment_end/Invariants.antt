use Rattle.std.proofs.Common.{◌≡◌, ◌+◌, ◌≤◌, drop}
use Rattle.tokens.specs.Reading.{comment_end}
use Rattle.tokens.proofs.piece.comment_end.Given as goal

abbrev pub invariant-loop-i : goal.invariant-loop-i
invariant-loop-i l = (l.depth ≤ l.i) × (comment_end l.depth l.last (l.i + 2) (drop l.i l.bytes) ≡ comment_end 0 0 2 l.bytes)
