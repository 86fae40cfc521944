-- Which types a sort has.
use Rattle.std.specs.Prelude.{Bool, true}
use Rattle.base.specs.TypeData.{TypeData}
use Rattle.unification.specs.declared.type_variables.slots.Sort.{Sort}
use Rattle.unification.specs.declared.type_variables.slots.Sort.TheVariants.{Any, Single, Value, Integer}
pub use Rattle.typing_rules.specs.Sorts.{is_integer, is_single, is_value}

-- a type is of a sort: any; not a tuple; neither a reference nor a tuple; an integer type
abbrev pub is_of : Sort → TypeData → Bool
is_of Any t = true
is_of Single t = is_single t
is_of Value t = is_value t
is_of Integer t = is_integer t
