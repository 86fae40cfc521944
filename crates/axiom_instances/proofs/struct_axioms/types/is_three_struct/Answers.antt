use Rattle.axiom_instances.proofs.TypeFormLemmas.{three_struct}
use Rattle.axiom_instances.proofs.FieldTypesFieldLemmas.{three_no_struct}
use Rattle.axiom_instances.proofs.struct_axioms.types.is_three_struct.Goals as goal

pub returns-in-TypeStruct : goal.returns-in-TypeStruct
returns-in-TypeStruct c = three_struct (rw c.in-TypeStruct.is at c.requires)

pub returns-in_default : goal.returns-in_default
returns-in_default c = three_no_struct c.args.head c.args.a c.args.b c.args.c c.requires c.in_default.not-TypeStruct
