-- The type tables of the clauses of declarations.
use Rattle.std.specs.Prelude.{◌≡◌, ℕ, List, length, map, take, Option, Some, slice_get}
use Rattle.base.specs.Pairs.{Paired}
use Rattle.base.specs.TypeData.{TypeData, TypesData, NoTypes}
use Rattle.program.specs.declared.clause.Clause.{Clause}
use Rattle.program.specs.declared.declaration.Function.{Function}
use Rattle.program.specs.declared.program.Program.{Program}
use Rattle.typing_rules.specs.Settings.{variable_of_local}
use Rattle.typing_rules.specs.Answers.{System, HasType}
use Rattle.typing_rules.specs.CodeSystems.{function_setting, function_system}
use Rattle.typing_rules.specs.Clauses.{Block, FunctionBlock, LoopBlock, Names, LetType, AreLets, clause_system, function_names, loop_names}
use Rattle.body_types.specs.SpecTyped.{SpecTypingSays}
use Rattle.type_check.specs.declared.clauses.judged.JudgedClause.{JudgedClause}
use Rattle.type_check.specs.Tables.{IsSettled, IsTable}
use Rattle.type_check.specs.declared.typed_program.TypeTable.{TypeTable}
use Rattle.type_check.specs.declared.typed_program.clauses.FunctionClauses.{FunctionClauses}

-- The tables of the clauses of an owner, in their order, in blocks of this kind, with these types substituted for type
-- parameters. Exactly the `let`s of the clauses before it are in scope of a clause.
pub record AreClauseTables (program : Program) (names : List (Option LetType) → Names) (block : Block) (types : TypesData) (clauses : List Clause) (tables : List TypeTable) : Type 0 where
  pub lets : List (Option LetType)
  pub are_lets : AreLets (λ before. clause_system program (names before) block types) clauses lets
  pub same_length : length tables ≡ length clauses
  pub each : (k : ℕ) (clause : Clause) (table : TypeTable) → slice_get clauses k ≡ Some clause → slice_get tables k ≡ Some table
      → IsTable (clause_system program (names (take k lets)) block types clause) table

-- the types that the typing of a function gives to its locals
pub record AreLocals (program : Program) (f : Function) (locals : List TypeData) : Type 0 where
  pub same_length : length locals ≡ length f.locals
  pub each : (l : ℕ) (of : TypeData) → slice_get locals l ≡ Some of → HasType (function_system program f) (variable_of_local (function_setting program f) l) of

-- the tables of the clauses of the loops of a function, in their order, where its locals have these types
abbrev pub AreLoopTablesWith : Program → Function → List TypeData → List TypeTable → Type 0
AreLoopTablesWith program f locals tables =
    Paired (λ clause t. IsTable (clause_system program (loop_names f.result locals) LoopBlock NoTypes clause) t) (map (λ l. l.clause) f.loop_clauses) tables

pub record AreLoopTables (program : Program) (f : Function) (tables : List TypeTable) : Type 0 where
  pub locals : List TypeData
  pub are_locals : AreLocals program f locals
  pub typed : AreLoopTablesWith program f locals tables

pub record AreFunctionClauses (program : Program) (f : Function) (clauses : FunctionClauses) : Type 0 where
  pub own : AreClauseTables program (function_names f) FunctionBlock NoTypes f.clauses clauses.own
  pub loops : AreLoopTables program f clauses.loops

-- ---- while tables are made

-- each clause of an owner is settled, with the `let`s of the clauses before it in scope
abbrev pub AreSettled : Program → (List (Option LetType) → Names) → Block → TypesData → List Clause → Type 0
AreSettled program names block types clauses =
    (lets : List (Option LetType)) (k : ℕ) (clause : Clause) → AreLets (λ before. clause_system program (names before) block types) clauses lets
    → slice_get clauses k ≡ Some clause → IsSettled (clause_system program (names (take k lets)) block types clause)

-- the table is that of each system with this typing
abbrev pub Tells : JudgedClause → TypeTable → Type 0
Tells one table = (s : System) → SpecTypingSays s one.pool one.typing → IsTable s table
