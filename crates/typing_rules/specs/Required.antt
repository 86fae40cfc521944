-- The required abilities. Source: The Move Book, "Abilities", "Equality", "References" and "Constraints".
use Rattle.std.specs.Prelude.{◌≡◌, ◌⊎◌, ℕ, ◌+◌, ◌==◌, Bool, true, false, not, ◌&&◌, ◌||◌, List, [], ◌∷◌, ◌++◌, map, Contains, Option, Some, None, slice_get, if◌then◌else◌}
use Rattle.std.specs.Map.{lookup}
use Rattle.std.specs.List.{list_any}
use Rattle.base.specs.TypeData.{TypeData, TypesData, BoolType, IntType, NumType, AddressType, SignerType, VectorType, StructType, ParamType, SharedType, MutableType, TupleType, NoTypes, MoreTypes}
use Rattle.program.specs.declared.arena.Node.TheVariants.{Leaf, Unary, Binary, Many}
use Rattle.program.specs.declared.operator.BinaryOperator.TheVariants.{Equal, NotEqual}
use Rattle.program.specs.declared.code.CodeLeaf.TheVariants.{Local, Ignore}
use Rattle.program.specs.declared.code.CodeUnary.TheVariants.{Dereference, Borrow, BorrowMutable, Field, Cast, Discard, Declare}
use Rattle.program.specs.declared.code.CodeBinary.TheVariants.{Operator, Assign, Let}
use Rattle.program.specs.declared.code.CodeMany.{CodeMany}
use Rattle.program.specs.declared.code.CodeMany.TheVariants.{Call, Pack, Unpack}
use Rattle.program.specs.declared.code.Callee.{Callee}
use Rattle.program.specs.declared.code.Callee.TheVariants.{Function as plain_function, Storage}
use Rattle.program.specs.declared.code.LocalUse.TheVariants.{Plain, Copy as by_copy}
use Rattle.program.specs.declared.declaration.AbilitySet.{AbilitySet}
use Rattle.program.specs.declared.declaration.Function.{Function}
use Rattle.program.specs.declared.declaration.Struct.{Struct}
use Rattle.program.specs.declared.declaration.TypedName.{TypedName}
use Rattle.program.specs.declared.declaration.TypeParameter.{TypeParameter}
use Rattle.program.specs.declared.program.Program.{Program}
use Rattle.program.specs.Same.{same_function, same_struct}
use Rattle.program.specs.Sets.{all_abilities}
use Rattle.program.specs.Types.{Structs, of_type}
use Rattle.program.specs.CodeNodes.{CodeNode}
use Rattle.typing_rules.specs.Answers.{HasType, NodeIsRead}
use Rattle.typing_rules.specs.Settings.{first_argument}
use Rattle.typing_rules.specs.CodeSystems.{function_setting, function_system}
use Rattle.typing_rules.specs.Calls.{HasArgument}

pub data Ability : Type 0 where
  Copy : Ability
  Drop : Ability
  Store : Ability
  Key : Ability

abbrev pub has_ability : Ability → AbilitySet → Bool
has_ability Copy a = a.has_copy
has_ability Drop a = a.has_drop
has_ability Store a = a.has_store
has_ability Key a = a.has_key

-- ---- at nodes

-- the node takes the one with the number n as an lvalue, and not its value
abbrev pub takes_place : ℕ → CodeNode → Bool
takes_place n (Unary Borrow a) = n == a
takes_place n (Unary BorrowMutable a) = n == a
takes_place n (Unary (Field name) a) = n == a
takes_place n (Binary Assign a b) = n == a
takes_place n _ = false

abbrev pub is_taken_as_place : List CodeNode → ℕ → Bool
is_taken_as_place nodes n = list_any (takes_place n) nodes

abbrev pub is_place : Option CodeNode → Bool
is_place (Some (Leaf (Local Plain l))) = true
is_place (Some (Unary Dereference a)) = true
is_place (Some (Unary (Field name) a)) = true
is_place _ = false

abbrev pub is_local : Option CodeNode → Bool
is_local (Some (Leaf (Local Plain l))) = true
is_local _ = false

-- a value that is read from an lvalue is copied
abbrev pub read_asks : List CodeNode → ℕ → List (ℕ × Ability)
read_asks nodes n = if is_taken_as_place nodes n then [] else (n, Copy) ∷ []

-- what is no lvalue is put into a temporary, and dropped
abbrev pub temporary_asks : List CodeNode → ℕ → List (ℕ × Ability)
temporary_asks nodes a = if is_place (slice_get nodes a) then [] else (a, Drop) ∷ []

-- the old value behind a reference, or in a field, is dropped
abbrev pub assigned_asks : List CodeNode → ℕ → List (ℕ × Ability)
assigned_asks nodes a = if is_local (slice_get nodes a) then [] else (a, Drop) ∷ []

abbrev pub call_asks : Callee → ℕ → List (ℕ × Ability)
call_asks (Storage operation) first = (first, Key) ∷ []
call_asks _ first = []

abbrev pub form_asks : CodeMany → ℕ → List (ℕ × Ability)
form_asks (Call c) first = call_asks c.callee first
form_asks _ first = []

-- the type variables of which the node with the number n requires an ability; its type arguments are the variables from
-- `first` on
abbrev pub required_at : List CodeNode → ℕ → ℕ → CodeNode → List (ℕ × Ability)
required_at nodes n first (Leaf (Local by_copy l)) = (n, Copy) ∷ []
required_at nodes n first (Leaf Ignore) = (n, Drop) ∷ []
required_at nodes n first (Unary Dereference a) = read_asks nodes n
required_at nodes n first (Unary (Field name) a) = read_asks nodes n ++ temporary_asks nodes a
required_at nodes n first (Unary Borrow a) = temporary_asks nodes a
required_at nodes n first (Unary BorrowMutable a) = temporary_asks nodes a
required_at nodes n first (Unary Discard a) = (a, Drop) ∷ []
required_at nodes n first (Binary (Operator Equal) a b) = (a, Drop) ∷ (b, Drop) ∷ []
required_at nodes n first (Binary (Operator NotEqual) a b) = (a, Drop) ∷ (b, Drop) ∷ []
required_at nodes n first (Binary Assign a b) = assigned_asks nodes a
required_at nodes n first (Many form parts) = form_asks form first
required_at nodes n first _ = []

-- ---- constraints of type parameters

-- each required ability is there
abbrev pub meets : AbilitySet → AbilitySet → Bool
meets required having =
    ((not required.has_copy || having.has_copy) && (not required.has_drop || having.has_drop))
    && ((not required.has_store || having.has_store) && (not required.has_key || having.has_key))

abbrev pub meets_parameter : Option TypeParameter → AbilitySet → Bool
meets_parameter None having = true
meets_parameter (Some p) having = meets p.abilities having

abbrev pub type_parameters_of : Option Struct → List TypeParameter
type_parameters_of None = []
type_parameters_of (Some s) = s.type_parameters

-- each type argument in a type meets the constraint of its type parameter, where type parameters have these abilities
abbrev mutual
  pub is_constrained : Structs → List AbilitySet → TypeData → Bool
  is_constrained structs params BoolType = true
  is_constrained structs params (IntType w) = true
  is_constrained structs params NumType = true
  is_constrained structs params AddressType = true
  is_constrained structs params SignerType = true
  is_constrained structs params (VectorType t) = is_constrained structs params t
  is_constrained structs params (StructType s ts) = are_constrained structs params (type_parameters_of (lookup (same_struct s) structs)) 0 ts
  is_constrained structs params (ParamType n) = true
  is_constrained structs params (SharedType t) = is_constrained structs params t
  is_constrained structs params (MutableType t) = is_constrained structs params t
  is_constrained structs params (TupleType ts) = are_constrained structs params [] 0 ts

  pub are_constrained : Structs → List AbilitySet → List TypeParameter → ℕ → TypesData → Bool
  are_constrained structs params parameters n NoTypes = true
  are_constrained structs params parameters n (MoreTypes t ts) =
      (is_constrained structs params t && meets_parameter (slice_get parameters n) (of_type structs params t)) && are_constrained structs params parameters (n + 1) ts

abbrev pub function_parameters : Option Function → List TypeParameter
function_parameters None = []
function_parameters (Some f) = f.type_parameters

abbrev pub callee_parameters : Program → Callee → List TypeParameter
callee_parameters program (plain_function f) = function_parameters (lookup (same_function f) program.functions)
callee_parameters program _ = []

-- the type parameters that the type arguments of a node are for
abbrev pub form_parameters : Program → CodeMany → List TypeParameter
form_parameters program (Call c) = callee_parameters program c.callee
form_parameters program (Pack fields) = type_parameters_of (lookup (same_struct fields.owner) program.structs)
form_parameters program (Unpack fields) = type_parameters_of (lookup (same_struct fields.owner) program.structs)
form_parameters program _ = []

abbrev pub node_parameters : Program → CodeNode → List TypeParameter
node_parameters program (Many form parts) = form_parameters program form
node_parameters program _ = []

-- the types written at a node
abbrev pub maybe_type : Option TypeData → List TypeData
maybe_type None = []
maybe_type (Some t) = t ∷ []

abbrev pub written_at : CodeNode → List TypeData
written_at (Unary (Cast t) a) = t ∷ []
written_at (Unary (Declare annotation) a) = maybe_type annotation
written_at (Binary (Let annotation) a b) = maybe_type annotation
written_at _ = []

-- ---- functions

-- the abilities of type parameters, by their constraints
abbrev pub given_abilities : List TypeParameter → List AbilitySet
given_abilities parameters = map (λ p. p.abilities) parameters

abbrev pub abilities_in : Program → Function → TypeData → AbilitySet
abilities_in program f of = of_type program.structs (given_abilities f.type_parameters) of

abbrev pub constrained_in : Program → Function → TypeData → Bool
constrained_in program f of = is_constrained program.structs (given_abilities f.type_parameters) of

-- a node that is read requires an ability that a type lacks
pub record LacksRequired (program : Program) (f : Function) : Type 0 where
  pub node : ℕ
  pub form : CodeNode
  pub stands : slice_get f.body.nodes node ≡ Some form
  pub is_read : NodeIsRead (function_system program f) node
  pub variable : ℕ
  pub ability : Ability
  pub required : Contains (required_at f.body.nodes node (first_argument (function_setting program f) node) form) (variable, ability)
  pub of : TypeData
  pub is_type : HasType (function_system program f) variable of
  pub lacks : has_ability ability (abilities_in program f of) ≡ false

-- a type argument of a node that is read does not meet its constraint, or contains one that does not
pub record LacksConstraint (program : Program) (f : Function) : Type 0 where
  pub node : ℕ
  pub form : CodeNode
  pub stands : slice_get f.body.nodes node ≡ Some form
  pub is_read : NodeIsRead (function_system program f) node
  pub number : ℕ
  pub of : TypeData
  pub given : HasArgument program f node number of
  pub lacks : (constrained_in program f of && meets_parameter (slice_get (node_parameters program form) number) (abilities_in program f of)) ≡ false

-- a type that is written at a node that is read contains a type argument that does not meet its constraint
pub record LacksWritten (program : Program) (f : Function) : Type 0 where
  pub node : ℕ
  pub form : CodeNode
  pub stands : slice_get f.body.nodes node ≡ Some form
  pub is_read : NodeIsRead (function_system program f) node
  pub of : TypeData
  pub written : Contains (written_at form) of
  pub lacks : constrained_in program f of ≡ false

abbrev pub signature_types : Function → List TypeData
signature_types f = map (λ p. p.annotation) f.parameters ++ f.result ∷ []

pub record LacksDeclared (program : Program) (f : Function) : Type 0 where
  pub of : TypeData
  pub declared : Contains (signature_types f) of
  pub lacks : constrained_in program f of ≡ false

abbrev pub FunctionLacksAbility : Program → Function → Type 0
FunctionLacksAbility program f =
    LacksRequired program f ⊎ (LacksConstraint program f ⊎ (LacksWritten program f ⊎ LacksDeclared program f))

-- ---- structs

-- the abilities that a struct with these abilities requires of its fields: each of copy, drop and store that it has,
-- and store for key
abbrev pub required_of_fields : AbilitySet → AbilitySet
required_of_fields a = record { has_copy = a.has_copy; has_drop = a.has_drop; has_store = a.has_store || a.has_key; has_key = false }

-- for the fields of its own declaration, the type parameters of a struct count as having every ability
abbrev pub counted_abilities : List TypeParameter → List AbilitySet
counted_abilities parameters = map (λ p. all_abilities) parameters

abbrev pub field_is_able : Structs → Struct → TypedName → Bool
field_is_able structs s field =
    meets (required_of_fields s.abilities) (of_type structs (counted_abilities s.type_parameters) field.annotation)
    && is_constrained structs (given_abilities s.type_parameters) field.annotation

pub record StructLacksAbility (program : Program) (s : Struct) : Type 0 where
  pub field : TypedName
  pub declared : Contains s.fields field
  pub lacks : field_is_able program.structs s field ≡ false
