use Rattle.std.proofs.Common.{◌≡◌, ◌+◌, ◌-◌, ◌^◌, ◌≤◌, drop}
use Rattle.certificates.specs.Lengths.{capped, moves_length}
use Rattle.certificates.proofs.bytes.moves.moves_len.Given as goal

-- the sum of the count so far and the length of the rest is the whole
abbrev pub invariant-loop-made : goal.invariant-loop-made
invariant-loop-made l = (capped (l.total + moves_length (drop l.made-index l.moves)) ≡ capped (moves_length l.moves)) × (l.total ≤ 2 ^ 64 - 1)
