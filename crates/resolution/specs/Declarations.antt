-- Resolved structs, constants and functions, without the clauses of their specs. Source: The Move Book, "Structs",
-- "Constants" and "Functions".
use Rattle.std.specs.Prelude.{◌≡◌, ◌⊎◌, ℕ, false, List, [], ◌++◌, map, Option, Some, None}
use Rattle.base.specs.declared.types.StructId.{StructId}
use Rattle.base.specs.TypeData.{TypeData, TupleType, NoTypes}
use Rattle.syntax_tree.specs.TypeTreeData.{SourceTypeData}
use Rattle.syntax_tree.specs.MemberData.{PathsData}
use Rattle.syntax_tree.specs.declared.member.Struct.{Struct as StructTree}
use Rattle.syntax_tree.specs.declared.member.Constant.{Constant as ConstantTree}
use Rattle.syntax_tree.specs.declared.member.Function.{Function as FunctionTree}
use Rattle.syntax_tree.specs.declared.member.TypedName.{TypedName as TypedNameTree}
use Rattle.syntax_tree.specs.declared.member.Visibility.{Visibility as VisibilityTree}
use Rattle.syntax_tree.specs.declared.member.Visibility.TheVariants.{Module as in_module, Public as to_all, Friends as to_friends}
use Rattle.program.specs.Listed.{IsSound, nodes_of}
use Rattle.program.specs.declared.declaration.Struct.{Struct}
use Rattle.program.specs.declared.declaration.Constant.{Constant}
use Rattle.program.specs.declared.declaration.Visibility.{Visibility}
use Rattle.program.specs.declared.declaration.Visibility.TheVariants.{Private, Friend, Public}
use Rattle.scopes.specs.EnvironmentData.{EnvironmentData}
use Rattle.scopes.specs.Meanings.{each, struct_meaning}
use Rattle.scopes.specs.TypeMeanings.{TypeScope, type_meaning}
use Rattle.body_names.specs.CodeNames.{names_of_block}
use Rattle.body_names.specs.CodeForms.{CodeTree}
use Rattle.resolution.specs.declared.declarations.functions.Head.{Head}
use Rattle.resolution.specs.declared.declarations.functions.ResolvedFunction.{ResolvedFunction}
use Rattle.body_names.specs.CodeSpans.{spans_of, spans_of_block}
use Rattle.body_names.specs.CodeResolved.{IsResolved, body_tree, constant_tree}
use Rattle.body_names.specs.LoopScopes.{loops_of_body}
use Rattle.resolution.specs.Parameters.{abilities_of, among, listed_abilities, type_parameters_of, typed_names}

-- ---- structs

-- the struct of this source: its fields with the meanings of their types
pub record IsStructOf (env : EnvironmentData) (tree : StructTree) (resolved : Struct) : Type 0 where
  pub span : resolved.span ≡ tree.span
  pub type_parameters : resolved.type_parameters ≡ type_parameters_of tree.parameters
  pub abilities : resolved.abilities ≡ abilities_of (listed_abilities tree.abilities)
  pub fields : typed_names (among env tree.parameters) tree.fields.items ≡ Some resolved.fields
  pub clauses : resolved.clauses ≡ []

abbrev pub HasUnknownInStruct : EnvironmentData → StructTree → Type 0
HasUnknownInStruct env tree = typed_names (among env tree.parameters) tree.fields.items ≡ None

-- ---- constants

-- only the names of its module are in scope in a constant
abbrev pub alone : EnvironmentData → TypeScope
alone env = record { environment = env; parameters = []; is_spec = false }

pub record IsConstantOf (env : EnvironmentData) (tree : ConstantTree) (resolved : Constant) : Type 0 where
  pub span : resolved.span ≡ tree.span
  pub annotation : type_meaning (alone env) tree.annotation ≡ Some resolved.annotation
  pub value_sound : IsSound (constant_tree (alone env) tree.value)
  pub value_nodes : resolved.value.nodes ≡ nodes_of (constant_tree (alone env) tree.value)
  pub value_spans : resolved.value.spans ≡ spans_of tree.value

abbrev pub HasUnknownInConstant : EnvironmentData → ConstantTree → Type 0
HasUnknownInConstant env tree = (type_meaning (alone env) tree.annotation ≡ None) ⊎ (IsSound (constant_tree (alone env) tree.value) → ⊥)

-- ---- functions

abbrev pub visibility_of : VisibilityTree → Visibility
visibility_of in_module = Private
visibility_of (to_all span) = Public
visibility_of (to_friends span) = Friend

-- the empty tuple if none is written
abbrev pub result_meaning : TypeScope → Option SourceTypeData → Option TypeData
result_meaning scope None = Some (TupleType NoTypes)
result_meaning scope (Some result) = type_meaning scope result

abbrev pub acquires_meaning : EnvironmentData → Option PathsData → Option (List StructId)
acquires_meaning env None = Some []
acquires_meaning env (Some paths) = each (struct_meaning env) paths.items

abbrev pub parameter_name_of : TypedNameTree → List ℕ
parameter_name_of n = n.name.text

abbrev pub parameter_names_of : FunctionTree → List (List ℕ)
parameter_names_of f = map parameter_name_of f.inputs.items

abbrev pub body_of : EnvironmentData → FunctionTree → CodeTree
body_of env f = body_tree (among env f.parameters) (parameter_names_of f) f.body

-- the head of a function: all but its body, its pragmas and its clauses
pub record IsHeadOf (env : EnvironmentData) (tree : FunctionTree) (resolved : Head) : Type 0 where
  pub visibility : resolved.visibility ≡ visibility_of tree.visibility
  pub type_parameters : resolved.type_parameters ≡ type_parameters_of tree.parameters
  pub parameters : typed_names (among env tree.parameters) tree.inputs.items ≡ Some resolved.parameters
  pub result_is : result_meaning (among env tree.parameters) tree.result ≡ Some resolved.result_type
  pub acquires : acquires_meaning env tree.acquires ≡ Some resolved.acquires

abbrev pub HasUnknownInHead : EnvironmentData → FunctionTree → Type 0
HasUnknownInHead env f =
    (typed_names (among env f.parameters) f.inputs.items ≡ None)
    ⊎ (result_meaning (among env f.parameters) f.result ≡ None)
    ⊎ (acquires_meaning env f.acquires ≡ None)

pub record IsFunctionOf (env : EnvironmentData) (tree : FunctionTree) (resolved : ResolvedFunction) : Type 0 where
  pub head : IsHeadOf env tree resolved.head
  pub body : IsResolved (body_of env tree) (spans_of_block tree.body) (parameter_names_of tree ++ names_of_block tree.body) resolved.body.code
  pub loops : resolved.body.loops.items ≡ loops_of_body (parameter_names_of tree) tree.body

abbrev pub HasUnknownInFunction : EnvironmentData → FunctionTree → Type 0
HasUnknownInFunction env f = HasUnknownInHead env f ⊎ (IsSound (body_of env f) → ⊥)
