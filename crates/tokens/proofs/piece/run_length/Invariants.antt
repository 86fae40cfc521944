use Rattle.std.proofs.Common.{◌≡◌, ◌+◌, drop}
use Rattle.std.specs.List.{prefix_len}
use Rattle.tokens.specs.Characters.{continues_word}
use Rattle.tokens.proofs.piece.run_length.Given as goal

abbrev pub invariant-loop-i : goal.invariant-loop-i
invariant-loop-i l = l.i + prefix_len continues_word (drop l.i l.bytes) ≡ prefix_len continues_word l.bytes
