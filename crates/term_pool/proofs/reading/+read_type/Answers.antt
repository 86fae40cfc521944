use Rattle.std.proofs.Common.{rules}
use Rattle.term_pool.proofs.ItemLemmas.{item_past}
use Rattle.term_pool.proofs.ListLemmas.{whole_types}
use Rattle.term_pool.proofs.reading.+read_type.Goals as goal

pub read_type-returns-in-None : goal.read_type-returns-in-None
read_type-returns-in-None t c = rw (item_past c.args.pool.now c.args.number c.in-None.ensures) (search rules)

pub read_types-returns : goal.read_types-returns
read_types-returns t c = whole_types c.loop-first.items.items _ _ c.in_default.ensures c.loop-first.invariant.all
