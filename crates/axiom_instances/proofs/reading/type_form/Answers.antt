use Rattle.std.proofs.Common.{ap}
use Rattle.term_pool.specs.Items.{type_in}
use Rattle.term_pool.proofs.ItemLemmas.{item_past}
use Rattle.axiom_instances.proofs.reading.type_form.Goals as goal

pub returns-in-None : goal.returns-in-None
returns-in-None c = ap type_in (item_past c.args.pool.now c.args.of c.in-None.ensures)
