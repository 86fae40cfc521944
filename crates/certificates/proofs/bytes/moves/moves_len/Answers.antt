use Rattle.std.proofs.Common.{refl}
use Rattle.certificates.specs.Lengths.{moves_length}
use Rattle.certificates.proofs.LengthLaws.{counted_end}
use Rattle.certificates.proofs.bytes.moves.moves_len.Goals as goal

pub returns : goal.returns
returns c = counted_end moves_length refl _ _ _ c.loop-made-test.false c.loop-made.invariant.0 c.loop-made.invariant.1
