use Rattle.axiom_instances.specs.Numbers.{term_at}
use Rattle.axiom_instances.proofs.ListLemmas.{adds_nothing}
use Rattle.axiom_instances.proofs.VectorLemmas.{no_item}
use Rattle.axiom_instances.proofs.pairs.ask_item.Goals as goal

pub returns-in-None-clause-adds : goal.returns-in-None-clause-adds
returns-in-None-clause-adds c =
    adds_nothing _ _ (no_item (term_at c.args.pool.now c.args.vector) (term_at c.args.pool.now c.args.position) c.in-None.ensures)
