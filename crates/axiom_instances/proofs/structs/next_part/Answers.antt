use Rattle.std.proofs.Common.{ap}
use Rattle.term_pool.specs.Items.{terms_in}
use Rattle.term_pool.proofs.ItemLemmas.{item_past}
use Rattle.axiom_instances.proofs.structs.next_part.Goals as goal

pub returns-in_default-3 : goal.returns-in_default-3
returns-in_default-3 c =
    let h = rw c.in_default.is at c.node.ensures in
    ap terms_in (item_past c.args.pool.now c.args.list h)
