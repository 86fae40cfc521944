-- What code may use of other modules. Source: The Move Book, "Functions", on visibility, and "Friends"; "Structs and
-- Resources", on privileged struct operations; "Global Storage Operators": only the module that declares a struct may
-- use it in global storage.
use Rattle.std.specs.Prelude.{◌≡◌, List, [], ◌++◌, map, All, Contains, Option, Some, None, IsSomeAnd}
use Rattle.std.specs.Map.{lookup}
use Rattle.base.specs.declared.span.Span.{Span}
use Rattle.base.specs.TypeData.{TypeData, list_of_types}
use Rattle.base.specs.declared.types.FunctionId.{FunctionId}
use Rattle.program.specs.declared.arena.Node.TheVariants.{Many}
use Rattle.program.specs.declared.code.CodeMany.{CodeMany}
use Rattle.program.specs.declared.code.CodeMany.TheVariants.{Call as call_form, Pack, Unpack}
use Rattle.program.specs.declared.code.Callee.{Callee}
use Rattle.program.specs.declared.code.Callee.TheVariants.{Function as plain_function, Storage, Vector, AddressOf}
use Rattle.program.specs.declared.declaration.TypeParameter.{TypeParameter}
use Rattle.program.specs.declared.declaration.Module.{Module}
use Rattle.program.specs.declared.declaration.Function.{Function}
use Rattle.program.specs.declared.declaration.Constant.{Constant}
use Rattle.program.specs.declared.program.ModuleId.{ModuleId}
use Rattle.program.specs.declared.program.ConstantId.{ConstantId}
use Rattle.program.specs.declared.program.Program.{Program}
use Rattle.program.specs.CodeNodes.{CodeNode}
use Rattle.scopes.specs.MemberNames.{same_module}
use Rattle.scopes.specs.Visibility.{MayCall}
use Rattle.program.specs.Homes.{struct_home, constant_home, function_home}
use Rattle.program.specs.StorageTypes.{TypeIsVisible}
use Rattle.program.specs.Same.{same_function}
use Rattle.program.specs.Order.{IsFirstOrNone}

-- a declaration with code: its span, its module, its type parameters, and its nodes
pub record Code : Type 0 where
  pub span : Span
  pub own : ModuleId
  pub types : List TypeParameter
  pub nodes : List CodeNode

-- the code of functions and of the values of constants
abbrev pub function_code : FunctionId × Function → Code
function_code f = record { span = f.1.span; own = function_home f.0; types = f.1.type_parameters; nodes = f.1.body.nodes }

abbrev pub constant_code : ConstantId × Constant → Code
constant_code c = record { span = c.1.span; own = constant_home c.0; types = []; nodes = c.1.value.nodes }

abbrev pub codes_of : Program → List Code
codes_of program = map function_code program.functions ++ map constant_code program.constants

-- ---- what may be used

abbrev pub friends_in : Option Module → List ModuleId
friends_in None = []
friends_in (Some m) = m.friends

-- the friends that a module names
abbrev pub friends_of : Program → ModuleId → List ModuleId
friends_of program owner = friends_in (lookup (same_module owner) program.modules)

-- the function is declared, and its visibility lets the module call it
abbrev pub FunctionIsVisible : Program → ModuleId → FunctionId → Type 0
FunctionIsVisible program own f =
    IsSomeAnd (lookup (same_function f) program.functions)
    (λ d. MayCall own (function_home f) d.visibility (friends_of program (function_home f)))

-- The functions of vectors and signers are visible everywhere. For a storage operation only the written types are known
-- here.
abbrev pub CallIsVisible : Program → ModuleId → List TypeParameter → Callee → List TypeData → Type 0
CallIsVisible program own types (plain_function f) args = FunctionIsVisible program own f
CallIsVisible program own types (Storage operation) args = All (TypeIsVisible own types) args
CallIsVisible program own types (Vector function) args = Unit {0}
CallIsVisible program own types AddressOf args = Unit {0}

-- a struct is packed and unpacked in its own module only
abbrev pub FormIsVisible : Program → ModuleId → List TypeParameter → CodeMany → Type 0
FormIsVisible program own types (call_form c) = CallIsVisible program own types c.callee (list_of_types c.types)
FormIsVisible program own types (Pack fields) = struct_home fields.owner ≡ own
FormIsVisible program own types (Unpack fields) = struct_home fields.owner ≡ own
FormIsVisible program own types _ = Unit {0}

-- the node respects visibility, its children aside
abbrev pub NodeIsVisible : Program → ModuleId → List TypeParameter → CodeNode → Type 0
NodeIsVisible program own types (Many form parts) = FormIsVisible program own types form
NodeIsVisible program own types _ = Unit {0}

-- each node respects visibility
abbrev pub IsVisible : Program → Code → Type 0
IsVisible program code = All (NodeIsVisible program code.own code.types) code.nodes

-- one of these declarations has this span and breaks visibility
abbrev pub IsBarredAmong : Program → List Code → Span → Type 0
IsBarredAmong program codes span = (code : Code) × Contains codes code × (code.span ≡ span) × ¬ IsVisible program code

abbrev pub IsBarred : Program → Span → Type 0
IsBarred program = IsBarredAmong program (codes_of program)

-- the span of the declaration if it breaks visibility, or none if it respects it
abbrev pub IsVerdict : Program → Code → Option Span → Type 0
IsVerdict program code None = IsVisible program code
IsVerdict program code (Some span) = (span ≡ code.span) × ¬ IsVisible program code

-- the first of these declarations that breaks visibility
pub record IsFirstBarred (program : Program) (codes : List Code) (found : Option Span) : Type 0 where
  pub clear : found ≡ None → All (IsVisible program) codes
  pub first : IsFirstOrNone (IsBarredAmong program codes) found
