use Rattle.axiom_instances.specs.Numbers.{term_at}
use Rattle.axiom_instances.proofs.ListLemmas.{adds_nothing}
use Rattle.axiom_instances.proofs.VectorLemmas.{nothing_beside}
use Rattle.axiom_instances.proofs.pairs.ask_beside.Goals as goal

pub returns-in-None-clause-adds : goal.returns-in-None-clause-adds
returns-in-None-clause-adds c =
    adds_nothing _ _ (nothing_beside (term_at c.args.pool.now c.args.term) c.in-None.ensures)
