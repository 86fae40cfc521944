use Rattle.std.proofs.Common.{◌≡◌, ◌+◌, length}
use Rattle.parser_base.specs.MarkerReading.{further, first_of}
use Rattle.parser_base.proofs.marker.first_marker.Given as goal

abbrev pub invariant-loop-token : goal.invariant-loop-token
invariant-loop-token l = (first_of l.tokens ≡ further l.index (first_of l.rest)) × (length l.tokens ≡ l.index + length l.rest)

abbrev pub decreases-loop-token : goal.decreases-loop-token
decreases-loop-token l = length l.rest
