use Rattle.axiom_instances.specs.Numbers.{term_at}
use Rattle.axiom_instances.proofs.ListLemmas.{adds_nothing}
use Rattle.axiom_instances.proofs.VectorLemmas.{quiet_type}
use Rattle.axiom_instances.proofs.types.ask_typed.Goals as goal

pub returns-in-Struct-clause-adds : goal.returns-in-Struct-clause-adds
returns-in-Struct-clause-adds c =
    adds_nothing _ _ (quiet_type c.args.pool.now c.args.of (term_at c.args.pool.now c.args.term) c.type_form.result c.type_form.ensures c.in-Struct.is)
