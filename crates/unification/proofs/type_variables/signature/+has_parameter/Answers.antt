use Rattle.std.proofs.Common.{◌∙◌, map, sym, ap}
use Rattle.base.specs.TypeData.{StructType, TupleType}
use Rattle.base.specs.TypeView.{type_of_node}
use Rattle.unification.specs.Instances.{instance, arguments}
use Rattle.unification.proofs.Instancing.{struct_instance, tuple_instance}
use Rattle.unification.proofs.type_variables.signature.+has_parameter.Goals as goal

pub has_parameter-returns-in-Struct : goal.has_parameter-returns-in-Struct
has_parameter-returns-in-Struct t c e u base = struct_instance (arguments u base c.args.count) c.in-Struct.field-0 c.types.inside.items.items c.args.of.now
    (sym c.of.view_is ∙ ap type_of_node c.in-Struct.is ∙ ap (StructType c.in-Struct.field-0) (sym c.types.view_is))
    (ap (map (instance (arguments u base c.args.count))) (sym c.deref-in-Struct.ensures.value) ∙ c.have_parameter.ensures e u base ∙ c.deref-in-Struct.ensures.value)

pub has_parameter-returns-in-Tuple : goal.has_parameter-returns-in-Tuple
has_parameter-returns-in-Tuple t c e u base = tuple_instance (arguments u base c.args.count) c.types-in-Tuple.inside.items.items c.args.of.now
    (sym c.of.view_is ∙ ap type_of_node c.in-Tuple.is ∙ ap TupleType (sym c.types-in-Tuple.view_is))
    (ap (map (instance (arguments u base c.args.count))) (sym c.deref-in-Tuple.ensures.value) ∙ c.have_parameter-in-Tuple.ensures e u base ∙ c.deref-in-Tuple.ensures.value)
