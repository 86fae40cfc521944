use Rattle.certificate_text.proofs.ItemLemmas.{compared_past}
use Rattle.certificate_text.proofs.lengths.items.left_len.Goals as goal

pub returns-in_default-3 : goal.returns-in_default-3
returns-in_default-3 c =
    let past = rw c.in_default.is at c.node.ensures in
    compared_past c.args.pool.now c.args.lens.now c.requires c.args.number past
