use Rattle.std.proofs.Common.{rules}
use Rattle.term_pool.proofs.ItemLemmas.{item_past}
use Rattle.term_pool.proofs.ListLemmas.{whole_terms, whole_triggers, whole_formulas}
use Rattle.term_pool.proofs.reading.+read_term.Goals as goal

pub read_term-returns-in-None : goal.read_term-returns-in-None
read_term-returns-in-None t c = rw (item_past c.args.pool.now c.args.number c.in-None.ensures) (search rules)

pub read_formula-returns-in-None : goal.read_formula-returns-in-None
read_formula-returns-in-None t c = rw (item_past c.args.pool.now c.args.number c.in-None.ensures) (search rules)

pub read_terms-returns : goal.read_terms-returns
read_terms-returns t c = whole_terms c.loop-first.items.items _ _ c.in_default.ensures c.loop-first.invariant.all

pub read_triggers-returns : goal.read_triggers-returns
read_triggers-returns t c = whole_triggers c.loop-first.items.items _ _ c.in_default.ensures c.loop-first.invariant.all

pub read_formulas-returns : goal.read_formulas-returns
read_formulas-returns t c = whole_formulas c.loop-first.items.items _ _ c.in_default.ensures c.loop-first.invariant.all
