use Rattle.axiom_instances.proofs.VectorLemmas.{no_vector}
use Rattle.axiom_instances.proofs.reading.vector_items.Goals as goal

pub returns-in_default : goal.returns-in_default
returns-in_default c = no_vector c.args.pool.now c.args.of c.type_form.result c.type_form.ensures c.in_default.not-Vector
