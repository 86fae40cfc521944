use Rattle.std.proofs.Common.{◌≡◌, ◌++◌}
use Rattle.term_pool.specs.Items.{bytes_in}
use Rattle.term_pool.specs.Pools.{item_at}
use Rattle.term_pool.proofs.reading.read_bytes.Given as goal

-- the bytes so far and those of the rest are all bytes
abbrev pub invariant-loop-byte : goal.invariant-loop-byte
invariant-loop-byte l = l.bytes.items ++ bytes_in (item_at l.pool l.list) ≡ bytes_in (item_at l.pool l.number)

abbrev pub decreases-loop-byte : goal.decreases-loop-byte
decreases-loop-byte l = l.list
