use Rattle.std.proofs.Common.{◌≡◌, ◌+◌, ◌-◌, ◌*◌, ◌^◌, ◌≤◌, drop}
use Rattle.base.specs.TypeData.{type_size, types_size, types_of}
use Rattle.certificates.specs.Lengths.{capped, types_length}
use Rattle.certificates.proofs.bytes.lengths.+type_len.Given as goal

abbrev pub decreases-type_len : goal.decreases-type_len
decreases-type_len l = 2 * type_size l.of.now

abbrev pub decreases-types_len : goal.decreases-types_len
decreases-types_len l = 2 * types_size l.types.now + 1

abbrev pub decreases-all_types_len : goal.decreases-all_types_len
decreases-all_types_len l = 2 * types_size (types_of l.types.now)

-- the sum of the count so far and the length of the rest is the whole
abbrev pub invariant-all_types_len-loop-one : goal.invariant-all_types_len-loop-one
invariant-all_types_len-loop-one l =
    (capped (l.total + types_length (types_of (drop l.one-index l.types))) ≡ capped (types_length (types_of l.types))) × (l.total ≤ 2 ^ 64 - 1)
