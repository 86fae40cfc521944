-- The judgments of the clauses of declarations.
use Rattle.std.specs.Prelude.{◌≡◌, ◌⊎◌, ℕ, ◌<◌, List, length, Contains, Option, Some, None, slice_get}
use Rattle.base.specs.TypeData.{TypeData, NoTypes}
use Rattle.program.specs.declared.clause.LoopClause.{LoopClause}
use Rattle.program.specs.declared.declaration.Function.{Function}
use Rattle.program.specs.declared.declaration.Module.{Module}
use Rattle.program.specs.declared.declaration.Struct.{Struct}
use Rattle.program.specs.declared.program.Program.{Program}
use Rattle.typing_rules.specs.Answers.{HasType}
use Rattle.typing_rules.specs.Settings.{variable_of_local}
use Rattle.typing_rules.specs.CodeSystems.{function_setting, function_system}
use Rattle.typing_rules.specs.Clauses.{FunctionBlock, StructBlock, ModuleBlock, LoopBlock, function_names, loop_names, struct_names, module_names}
use Rattle.typing_rules.specs.Faults.{Stated, IsOwned, IsOfLoop}
use Rattle.type_check.specs.Judged.{ClauseSays, stated}
use Rattle.type_check.specs.Lets.{HasNoType}
use Rattle.type_check.specs.declared.clauses.judged.JudgedClause.{JudgedClause}

-- each of these clauses has a judgment, and each judgment is of one of these
pub record TellsOf (program : Program) (Are : Stated → Type 0) (judged : List JudgedClause) : Type 0 where
  pub sound : (one : JudgedClause) → Contains judged one → (c : Stated) × (Are c × (c.span ≡ one.span) × ClauseSays program c one)
  pub all : (c : Stated) → Are c → (one : JudgedClause) × (Contains judged one × (c.span ≡ one.span) × ClauseSays program c one)

-- the clauses of a function, and of its loops
abbrev pub IsOfFunction : Program → Function → Stated → Type 0
IsOfFunction program f c = IsOwned program FunctionBlock (function_names f) f.clauses c ⊎ IsOfLoop program f c

abbrev pub IsOfStruct : Program → Struct → Stated → Type 0
IsOfStruct program s c = IsOwned program StructBlock (struct_names s) s.clauses c

abbrev pub IsOfModule : Program → Module → Stated → Type 0
IsOfModule program m c = IsOwned program ModuleBlock module_names m.clauses c

-- clauses of one of these declarations
abbrev pub OfSome : {K D : Type 0} → (D → Stated → Type 0) → List (K × D) → Stated → Type 0
OfSome {K} {D} IsOf entries c = (e : K × D) × (Contains entries e × IsOf e.1 c)

-- the types of the locals of a function; none if one of them has none
abbrev pub LocalsSay : Program → Function → Option (List TypeData) → Type 0
LocalsSay program f None = (l : ℕ) × ((l < length f.locals) × HasNoType (function_system program f) (variable_of_local (function_setting program f) l))
LocalsSay program f (Some types) = (length types ≡ length f.locals)
    × ((l : ℕ) (of : TypeData) → slice_get types l ≡ Some of → HasType (function_system program f) (variable_of_local (function_setting program f) l) of)

-- the judgment of each clause of the loops of a function, whose locals have these types
pub record LoopsSay (program : Program) (f : Function) (locals : List TypeData) (judged : List JudgedClause) : Type 0 where
  pub same_length : length judged ≡ length f.loop_clauses
  pub each : (k : ℕ) (l : LoopClause) (one : JudgedClause) → slice_get f.loop_clauses k ≡ Some l → slice_get judged k ≡ Some one
      → ClauseSays program (stated (loop_names f.result locals) LoopBlock NoTypes l.clause l.clause.block) one × (one.span ≡ l.clause.block)
