use Rattle.std.proofs.Common.{subst}
use Rattle.axiom_instances.specs.FieldTypes.{HasNoShape}
use Rattle.axiom_instances.proofs.field_types.fields.field_types.Goals as goal

pub returns-in_default-struct_shape-clause-are : goal.returns-in_default-struct_shape-clause-are
returns-in_default-struct_shape-clause-are c =
    subst (HasNoShape c.args.shapes.now) c.in_ok-tree.ensures (record { none = c.in_default-struct_shape.ensures })
