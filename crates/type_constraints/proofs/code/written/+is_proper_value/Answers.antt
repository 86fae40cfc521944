use Rattle.std.proofs.Common.{refl}
use Rattle.base.specs.TypeData.{list_of_types-types_of}
use Rattle.type_constraints.proofs.code.written.+is_proper_value.Goals as goal

pub is_proper_struct-returns-then-has_parameters : goal.is_proper_struct-returns-then-has_parameters
is_proper_struct-returns-then-has_parameters t c =
    rw (list_of_types-types_of c.args.types.now, ← c.has_parameters.ensures, c.if-has_parameters.true) c.are_proper_values.ensures

pub is_proper_struct-returns-else-has_parameters : goal.is_proper_struct-returns-else-has_parameters
is_proper_struct-returns-else-has_parameters t c =
    rw (list_of_types-types_of c.args.types.now, ← c.has_parameters.ensures, c.if-has_parameters.false) refl
