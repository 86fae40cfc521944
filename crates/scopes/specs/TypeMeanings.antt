-- The meaning of types in a source. Source: The Move Book, "Primitive Types", "Vector", "References", "Tuples and Unit"
-- and "Generics"; the Move Specification Language reference, "Type System", on `num`.
use Rattle.std.specs.Prelude.{ℕ, Bool, List, codes, position, Option, Some, None, option_and_then, if◌then◌else◌}
use Rattle.std.specs.Option.{option_map, option_or}
use Rattle.base.specs.Names.{same_name}
use Rattle.base.specs.TypeData.{TypeData, TypesData, NoTypes, MoreTypes, ParamType, StructType, VectorType, SharedType, MutableType, TupleType}
use Rattle.syntax_tree.specs.declared.path.Path.{Path}
use Rattle.syntax_tree.specs.TypeTreeData.{SourceTypeData, SharedSourceType, MutableSourceType, NamedSourceType, TupleSourceType, Arguments, MaybeArgumentsData, NoArguments, SomeArguments, SourceTypesData, NoSourceTypes, MoreSourceTypes}
use Rattle.scopes.specs.EnvironmentData.{EnvironmentData}
use Rattle.scopes.specs.Meanings.{struct_meaning, word_meaning}
use Rattle.scopes.specs.Builtins.{plain_type}

-- the context of a type: its module, the type parameters in scope, and whether it is in a specification
pub record TypeScope : Type 0 where
  pub environment : EnvironmentData
  pub parameters : List (List ℕ)
  pub is_spec : Bool

-- The meaning of a type with type arguments that it cannot have: a vector of a tuple, which no typing rule allows.
abbrev pub misapplied : TypesData → TypeData
misapplied types = VectorType (TupleType types)

-- the type, if there is exactly one
abbrev pub only : TypesData → Option TypeData
only NoTypes = None
only (MoreTypes t NoTypes) = Some t
only (MoreTypes t (MoreTypes u us)) = None

abbrev pub or_type : Option TypeData → TypeData → TypeData
or_type (Some t) other = t
or_type None other = other

-- a type without type arguments
abbrev pub plain : TypeData → TypesData → TypeData
plain t NoTypes = t
plain t (MoreTypes u us) = misapplied (MoreTypes u us)

-- `vector` has one type argument
abbrev pub vector_of : TypesData → TypeData
vector_of types = or_type (option_map VectorType (only types)) (misapplied types)

-- one type in parentheses is that type
abbrev pub tuple_of : TypesData → TypeData
tuple_of types = or_type (only types) (TupleType types)

-- the index of the type parameter
abbrev pub parameter_among : List (List ℕ) → Path → Option ℕ
parameter_among parameters path = word_meaning (λ word. position (same_name word) parameters) path

abbrev pub builtin_meaning : Bool → TypesData → List ℕ → Option TypeData
builtin_meaning is_spec types word =
    if same_name word (codes "vector") then Some (vector_of types) else option_map (λ t. plain t types) (plain_type is_spec word)

-- a path with these type arguments: a type parameter, or else a struct, or else a builtin type
abbrev pub named_meaning : TypeScope → Path → TypesData → Option TypeData
named_meaning scope path types =
    option_or (option_map (λ i. plain (ParamType i) types) (parameter_among scope.parameters path))
    (option_or (option_map (λ s. StructType s types) (struct_meaning scope.environment path))
    (word_meaning (builtin_meaning scope.is_spec types) path))

abbrev mutual
  pub type_meaning : TypeScope → SourceTypeData → Option TypeData
  type_meaning scope (SharedSourceType span target) = option_map SharedType (type_meaning scope target)
  type_meaning scope (MutableSourceType span target) = option_map MutableType (type_meaning scope target)
  type_meaning scope (NamedSourceType path arguments) = option_and_then (named_meaning scope path) (arguments_meaning scope arguments)
  type_meaning scope (TupleSourceType span items last) = option_map tuple_of (types_meaning scope items)

  -- the written type arguments; no types if there are none
  pub arguments_meaning : TypeScope → MaybeArgumentsData → Option TypesData
  arguments_meaning scope NoArguments = Some NoTypes
  arguments_meaning scope (SomeArguments (Arguments items last)) = types_meaning scope items

  pub types_meaning : TypeScope → SourceTypesData → Option TypesData
  types_meaning scope NoSourceTypes = Some NoTypes
  types_meaning scope (MoreSourceTypes t ts) =
      option_and_then (λ one. option_map (MoreTypes one) (types_meaning scope ts)) (type_meaning scope t)
