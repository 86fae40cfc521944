use Rattle.axiom_instances.proofs.FieldTypesFieldLemmas.{struct_arguments}
use Rattle.term_pool.specs.declared.node.Node.TheVariants.{Three as ThreeNode}
use Rattle.term_pool.specs.Pools.{IsMade}
use Rattle.std.proofs.Common.{subst}
use Rattle.axiom_instances.proofs.field_types.fields.three_arguments.Goals as goal

pub returns-in-TypeStruct : goal.returns-in-TypeStruct
returns-in-TypeStruct c =
    struct_arguments c.in-TypeStruct.field-0 c.args.a c.args.b c.args.c (subst (λ h. IsMade c.args.pool.now c.args.of (ThreeNode h c.args.a c.args.b c.args.c)) c.in-TypeStruct.is c.requires)
