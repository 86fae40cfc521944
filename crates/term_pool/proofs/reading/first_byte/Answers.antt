use Rattle.std.proofs.Common.{ap}
use Rattle.term_pool.specs.Items.{bytes_in}
use Rattle.term_pool.proofs.ItemLemmas.{item_past}
use Rattle.term_pool.proofs.reading.first_byte.Goals as goal

pub returns-in_default-3 : goal.returns-in_default-3
returns-in_default-3 c =
    let h = rw c.in_default.is at c.node.ensures in
    ap bytes_in (item_past c.args.pool.now c.args.list h)
