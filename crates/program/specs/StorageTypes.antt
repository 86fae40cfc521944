-- The types at which a module may use global storage. Source: The Move Book, "Global Storage Operators", by which only
-- the module that declares a struct may use it in global storage.
use Rattle.std.specs.Prelude.{◌≡◌, Bool, false, not, IsTrue, List, Option, Some, None, slice_get}
use Rattle.base.specs.TypeData.{TypeData, StructType, ParamType}
use Rattle.program.specs.declared.declaration.TypeParameter.{TypeParameter}
use Rattle.program.specs.declared.program.ModuleId.{ModuleId}
use Rattle.program.specs.Homes.{struct_home}

abbrev pub key_of : Option TypeParameter → Bool
key_of None = false
key_of (Some p) = p.abilities.has_key

-- a struct is declared in the module itself; a type parameter without key is visible, since its use breaks the rule on
-- abilities
abbrev pub TypeIsVisible : ModuleId → List TypeParameter → TypeData → Type 0
TypeIsVisible own types (StructType s args) = struct_home s ≡ own
TypeIsVisible own types (ParamType n) = IsTrue (not (key_of (slice_get types n)))
TypeIsVisible own types _ = Unit {0}
