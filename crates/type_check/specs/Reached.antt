-- The clauses of a program with their settings: those of its declarations, and those of the schemas that they include.
use Rattle.std.specs.Prelude.{Contains}
use Rattle.base.specs.declared.types.FunctionId.{FunctionId}
use Rattle.base.specs.declared.types.StructId.{StructId}
use Rattle.program.specs.declared.declaration.Function.{Function}
use Rattle.program.specs.declared.declaration.Module.{Module}
use Rattle.program.specs.declared.declaration.Struct.{Struct}
use Rattle.program.specs.declared.program.ModuleId.{ModuleId}
use Rattle.program.specs.declared.program.Program.{Program}
use Rattle.typing_rules.specs.Clauses.{FunctionBlock, StructBlock, ModuleBlock, function_names, struct_names, module_names}
use Rattle.typing_rules.specs.Faults.{Stated, IsOwned, IsOfLoop, IsIncluded}

-- a clause of a declaration itself
pub data IsRoot (program : Program) (c : Stated) : Type 0 where
  OfFunction : (id : FunctionId) (f : Function) → Contains program.functions (id, f) → IsOwned program FunctionBlock (function_names f) f.clauses c → IsRoot program c
  OfLoop : (id : FunctionId) (f : Function) → Contains program.functions (id, f) → IsOfLoop program f c → IsRoot program c
  OfStruct : (id : StructId) (s : Struct) → Contains program.structs (id, s) → IsOwned program StructBlock (struct_names s) s.clauses c → IsRoot program c
  OfModule : (id : ModuleId) (m : Module) → Contains program.modules (id, m) → IsOwned program ModuleBlock module_names m.clauses c → IsRoot program c

-- the clause itself, and those of the schemas that it includes, over any number of includes
pub data IsReached (program : Program) (from : Stated) : Stated → Type 0 where
  Here : IsReached program from from
  Over : (c d : Stated) → IsReached program from c → IsIncluded program c d → IsReached program from d
