-- The meaning of addresses, modules and paths in a module. Source: The Move Book, "Address", "Modules and Scripts", and
-- "Uses and Aliases".
use Rattle.std.specs.Prelude.{◌≡◌, ℕ, List, [], ◌∷◌, codes, Option, Some, None, option_and_then, Result, MatchResult, if◌then◌else◌}
use Rattle.std.specs.Option.{option_map, option_or}
use Rattle.std.specs.Map.{lookup}
use Rattle.std.specs.List.{list_any}
use Rattle.std.specs.FinMap as map
use Rattle.base.specs.Names.{same_name}
use Rattle.base.specs.declared.types.StructId.{StructId}
use Rattle.base.specs.declared.types.FunctionId.{FunctionId}
use Rattle.syntax_tree.specs.declared.path.Address.{Address}
use Rattle.syntax_tree.specs.declared.path.Address.TheVariants.{Number as number_address, Name as named_address}
use Rattle.syntax_tree.specs.declared.path.ModuleName.{ModuleName}
use Rattle.syntax_tree.specs.declared.path.Path.{Path}
use Rattle.syntax_tree.specs.declared.path.Path.TheVariants.{Name as name_path, Member as member_path, Full as full_path}
use Rattle.program.specs.declared.program.ModuleId.{ModuleId}
use Rattle.program.specs.declared.program.ConstantId.{ConstantId}
use Rattle.program.specs.declared.program.SchemaId.{SchemaId}
use Rattle.program.specs.declared.code.Callee.{Callee}
use Rattle.program.specs.declared.code.Callee.TheVariants.{Storage}
use Rattle.program.specs.declared.spec.SpecCallee.{SpecCallee}
use Rattle.program.specs.declared.spec.SpecCallee.TheVariants.{Function as spec_function, Builtin as builtin}
use Rattle.scopes.specs.declared.fault.NameFault.{NameFault}
use Rattle.scopes.specs.declared.fault.NameFault.TheVariants.{Unknown, NoMemory}
use Rattle.scopes.specs.declared.member.MemberKind.{MemberKind}
use Rattle.scopes.specs.declared.member.MemberKind.TheVariants.{Struct, Constant, Function, SpecFunction, Schema}
use Rattle.scopes.specs.declared.member.MemberId.{MemberId}
use Rattle.scopes.specs.MemberNames.{same_declaration, same_name_of_kind}
use Rattle.scopes.specs.EnvironmentData.{EnvironmentData}
use Rattle.scopes.specs.Builtins.{builtin_function, spec_move_function, storage_operation, spec_builtin}

-- ---- results of looking up a meaning

abbrev pub IfUnknown : NameFault → Type 0 → Type 0
IfUnknown Unknown P = P
IfUnknown NoMemory P = Unit {0}

-- the result is the meaning, or the error that there is none
abbrev pub IsMeaning : {A : Type 0} → Result A NameFault → Option A → Type 0
IsMeaning result meaning = MatchResult result (λ found. meaning ≡ Some found) (λ fault. IfUnknown fault (meaning ≡ None))

-- the meaning of each item of a list, if all of them have one
abbrev pub each : {A B : Type 0} → (A → Option B) → List A → Option (List B)
each f [] = Some []
each f (x ∷ xs) = option_and_then (λ one. option_map (λ more. one ∷ more) (each f xs)) (f x)

-- ---- addresses and modules

-- a number means itself, and a name means its defined value
abbrev pub address_meaning : EnvironmentData → Address → Option ℕ
address_meaning env (number_address n) = Some n.literal.value
address_meaning env (named_address name) = map.get env.addresses name.text

abbrev pub module_meaning : EnvironmentData → ModuleName → Option ModuleId
module_meaning env m = option_map (λ a. record { address = a; name = m.name.text }) (address_meaning env m.address)

-- the module that a word before `::` names: an imported one, or else the module itself for `Self`
abbrev pub prefix_meaning : EnvironmentData → List ℕ → Option ModuleId
prefix_meaning env word =
    option_or (lookup (same_name word) env.modules) (if same_name word (codes "Self") then Some env.own else None)

-- ---- members

-- the member of this name, if the module declares one of this kind
abbrev pub declared_meaning : EnvironmentData → MemberKind → ModuleId → List ℕ → Option MemberId
declared_meaning env kind owner name =
    let member : MemberId = record { owner = owner; name = name } in
    if list_any (same_declaration (record { kind = kind; member = member })) env.declared then Some member else None

-- A single name means what the module declares or imports; after a module it means what that module declares.
abbrev pub member_meaning : EnvironmentData → MemberKind → Path → Option MemberId
member_meaning env kind (name_path name) = lookup (same_name_of_kind (record { kind = kind; name = name.text })) env.names
member_meaning env kind (member_path owner name) =
    option_and_then (λ m. declared_meaning env kind m name.text) (prefix_meaning env owner.text)
member_meaning env kind (full_path owner name) =
    option_and_then (λ m. declared_meaning env kind m name.text) (module_meaning env owner)

-- ---- by kinds

abbrev pub struct_of : MemberId → StructId
struct_of m = record { address = m.owner.address; «module» = m.owner.name; name = m.name }

abbrev pub constant_of : MemberId → ConstantId
constant_of m = record { address = m.owner.address; «module» = m.owner.name; name = m.name }

abbrev pub function_of : MemberId → FunctionId
function_of m = record { address = m.owner.address; «module» = m.owner.name; name = m.name }

abbrev pub schema_of : MemberId → SchemaId
schema_of m = record { address = m.owner.address; «module» = m.owner.name; name = m.name }

abbrev pub struct_meaning : EnvironmentData → Path → Option StructId
struct_meaning env path = option_map struct_of (member_meaning env Struct path)

abbrev pub constant_meaning : EnvironmentData → Path → Option ConstantId
constant_meaning env path = option_map constant_of (member_meaning env Constant path)

abbrev pub schema_meaning : EnvironmentData → Path → Option SchemaId
schema_meaning env path = option_map schema_of (member_meaning env Schema path)

-- the meaning of a single word; a path with a module has none
abbrev pub word_meaning : {A : Type 0} → (List ℕ → Option A) → Path → Option A
word_meaning f (name_path name) = f name.text
word_meaning f (member_path owner name) = None
word_meaning f (full_path owner name) = None

-- in code: a function of a module, or else a storage operation
abbrev pub callee_meaning : EnvironmentData → Path → Option Callee
callee_meaning env path =
    option_or (option_map (λ m. builtin_function m) (member_meaning env Function path)) (option_map Storage (word_meaning storage_operation path))

-- in specifications: a spec function, or else a builtin function of specifications or `signer::address_of`
abbrev pub builtin_spec_meaning : EnvironmentData → Path → Option SpecCallee
builtin_spec_meaning env path =
    option_map builtin (option_or (option_and_then spec_move_function (member_meaning env Function path)) (word_meaning spec_builtin path))

abbrev pub spec_callee_meaning : EnvironmentData → Path → Option SpecCallee
spec_callee_meaning env path =
    option_or (option_map (λ m. spec_function (function_of m)) (member_meaning env SpecFunction path)) (builtin_spec_meaning env path)
