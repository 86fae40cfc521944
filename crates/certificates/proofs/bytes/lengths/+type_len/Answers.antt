use Rattle.std.proofs.Common.{refl}
use Rattle.base.specs.TypeData.{types_of}
use Rattle.certificates.specs.Lengths.{types_length}
use Rattle.certificates.proofs.LengthLaws.{counted_end}
use Rattle.certificates.proofs.bytes.lengths.+type_len.Goals as goal

pub all_types_len-returns : goal.all_types_len-returns
all_types_len-returns t c = counted_end (λ ts. types_length (types_of ts)) refl _ _ _ c.loop-one-test.false c.loop-one.invariant.0 c.loop-one.invariant.1
