use Rattle.axiom_instances.specs.Numbers.{type_at}
use Rattle.axiom_instances.proofs.TypedTermLemmas.{no_struct}
use Rattle.axiom_instances.proofs.struct_axioms.types.axioms_of_typed_term.Goals as goal

pub axioms_of_typed-requires-clause-plain : goal.axioms_of_typed-requires-clause-plain
axioms_of_typed-requires-clause-plain c = no_struct (type_at c.args.pool.now c.args.of) c.if-is_struct.ensures
