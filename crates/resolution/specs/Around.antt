-- The names around the clauses of an owner, the innermost last. Source: the Move Specification Language reference,
-- "Expressions" (on `result`), "Let Bindings", "Invariants" and "Schemas"; The Move Book, "Functions", on tuples as
-- results.
use Rattle.std.specs.Prelude.{ℕ, zero, suc, ◌+◌, List, [], ◌∷◌, ◌++◌, length, map, codes}
use Rattle.std.specs.Fmt.{decimal}
use Rattle.base.specs.TypeData.{TypeData, BoolType, IntType, NumType, AddressType, SignerType, VectorType, StructType, ParamType, SharedType, MutableType, TupleType, list_of_types}
use Rattle.syntax_tree.specs.declared.member.TypedName.{TypedName as TypedNameTree}
use Rattle.program.specs.declared.spec.SpecName.{SpecName}
use Rattle.program.specs.declared.spec.SpecName.TheVariants.{Parameter as parameter_name, Local as local_name, Result as result_name, Variable as variable_name, Field as field_name}
use Rattle.scopes.specs.declared.scope.InScope.{InScope}
use Rattle.body_names.specs.declared.spec.outer.OuterName.{OuterName}
use Rattle.resolution.specs.declared.clauses.around.NameKind.{NameKind}
use Rattle.resolution.specs.declared.clauses.around.NameKind.TheVariants.{Parameter, Variable, Field}

abbrev pub name_of_typed : TypedNameTree → List ℕ
name_of_typed n = n.name.text

abbrev pub names_of : List TypedNameTree → List (List ℕ)
names_of names = map name_of_typed names

abbrev pub meaning_of : NameKind → ℕ → SpecName
meaning_of Parameter n = parameter_name n
meaning_of Variable n = variable_name n
meaning_of Field n = field_name n

-- names of one owner with consecutive numbers, the first with number n
abbrev pub numbered : NameKind → ℕ → List (List ℕ) → List OuterName
numbered kind n [] = []
numbered kind n (one ∷ more) = record { name = one; meaning = meaning_of kind n } ∷ numbered kind (1 + n) more

-- `result_1` and so on: the first n components of a result, numbered from 0
abbrev pub parts_of_result : ℕ → List OuterName
parts_of_result zero = []
parts_of_result (suc n) = parts_of_result n ++ record { name = codes "result_" ++ decimal (suc n); meaning = result_name n } ∷ []

abbrev pub whole_result : List OuterName
whole_result = record { name = codes "result"; meaning = result_name 0 } ∷ []

-- `result`, or one name for each component of a tuple, which has none if nothing is returned
abbrev pub results_of : TypeData → List OuterName
results_of BoolType = whole_result
results_of (IntType width) = whole_result
results_of NumType = whole_result
results_of AddressType = whole_result
results_of SignerType = whole_result
results_of (VectorType t) = whole_result
results_of (StructType owner types) = whole_result
results_of (ParamType n) = whole_result
results_of (SharedType t) = whole_result
results_of (MutableType t) = whole_result
results_of (TupleType types) = parts_of_result (length (list_of_types types))

-- a function: its results, and then its parameters
abbrev pub around_function : TypeData → List TypedNameTree → List OuterName
around_function result_type inputs = results_of result_type ++ numbered Parameter 0 (names_of inputs)

-- a struct: its fields
abbrev pub around_struct : List TypedNameTree → List OuterName
around_struct fields = numbered Field 0 (names_of fields)

-- a spec function: its parameters
abbrev pub around_spec_function : List TypedNameTree → List OuterName
around_spec_function inputs = numbered Parameter 0 (names_of inputs)

-- a schema: its variables
abbrev pub around_schema : List (List ℕ) → List OuterName
around_schema variables = numbered Variable 0 variables

abbrev pub local_around : InScope → OuterName
local_around one = record { name = one.name; meaning = local_name one.number }

-- a loop: the results of its function, and then the locals in scope at the loop
abbrev pub around_loop : TypeData → List InScope → List OuterName
around_loop result_type locals = results_of result_type ++ map local_around locals
