use Rattle.axiom_instances.proofs.FieldTypesFieldLemmas.{no_node}
use Rattle.axiom_instances.proofs.field_types.fields.arguments.Goals as goal

pub returns-in-None : goal.returns-in-None
returns-in-None c = no_node c.args.pool.now c.args.of c.in-None.ensures
