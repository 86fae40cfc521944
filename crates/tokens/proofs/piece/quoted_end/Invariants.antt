use Rattle.std.proofs.Common.{◌≡◌, ◌+◌, false, drop}
use Rattle.tokens.specs.Reading.{quoted_end}
use Rattle.tokens.proofs.piece.quoted_end.Given as goal

abbrev pub invariant-loop-i : goal.invariant-loop-i
invariant-loop-i l = quoted_end l.escaped (l.i + 2) (drop l.i l.bytes) ≡ quoted_end false 2 l.bytes
