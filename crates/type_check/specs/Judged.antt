-- The judgment of a clause in its block: which typing rules it breaks, and what it includes.
use Rattle.std.specs.Prelude.{◌≡◌, ◌⊎◌, ◌↔◌, ℕ, ◌<◌, false, IsTrue, List, length, take, Option, Some, slice_get, MatchOption}
use Rattle.std.specs.Map.{lookup}
use Rattle.base.specs.TypeData.{TypesData, types_of}
use Rattle.base.specs.declared.span.Span.{Span}
use Rattle.program.specs.declared.clause.Clause.{Clause}
use Rattle.program.specs.declared.clause.ClauseForm.{ClauseForm}
use Rattle.program.specs.declared.clause.ClauseForm.TheVariants.{Include}
use Rattle.program.specs.declared.declaration.Schema.{Schema}
use Rattle.program.specs.declared.program.Program.{Program}
use Rattle.program.specs.declared.program.SchemaId.{SchemaId}
use Rattle.program.specs.Same.{same_schema}
use Rattle.typing_rules.specs.Answers.{IsUntypable, IsAmbiguous}
use Rattle.typing_rules.specs.Clauses as C
use Rattle.typing_rules.specs.Faults.{Stated, stated_system, variables_are_proper}
use Rattle.type_constraints.specs.SpecSettings.{let_of}
use Rattle.type_constraints.specs.Blocks.{block_of}
use Rattle.type_constraints.specs.declared.spec.setting.LetType.{LetType}
use Rattle.body_types.specs.SpecTyped.{SpecTypingSays}
use Rattle.type_check.specs.ClausesInstances as I
use Rattle.type_check.specs.Lets.{LetSays, LetsSay}
use Rattle.type_check.specs.declared.clauses.instance.Instance.{Instance}
use Rattle.type_check.specs.declared.clauses.judged.ClauseRule.{ClauseRule}
use Rattle.type_check.specs.declared.clauses.judged.ClauseRule.TheVariants.{Typing, Settling}
use Rattle.type_check.specs.declared.clauses.judged.JudgedClause.{JudgedClause}

-- ---- which rules a clause breaks

-- a schema is included of which a variable has a type that it may not have
pub record IncludesImproper (program : Program) (form : ClauseForm) : Type 0 where
  pub schema : SchemaId
  pub types : TypesData
  pub given : List ℕ
  pub form_is : form ≡ Include schema types given
  pub declared : Schema
  pub lookup_is : lookup (same_schema schema) program.schemas ≡ Some declared
  pub improper : variables_are_proper program declared ≡ false

-- the clause breaks the rule in its block
abbrev pub ClauseBreaks : Program → ClauseRule → Stated → Type 0
ClauseBreaks program Typing c = IsUntypable (stated_system program c) ⊎ IncludesImproper program c.clause.form
ClauseBreaks program Settling c = IsAmbiguous (stated_system program c)

-- ---- judgments

-- an instance of a schema, as pure data
abbrev pub instance_of : Instance → I.Instance
instance_of i = record { schema = i.schema; types = types_of i.types.items; block = block_of i.block }

-- the instance that a clause includes, if it includes one and all type arguments have types
abbrev pub IncludedSays : Program → Stated → Option Instance → Type 0
IncludedSays program c included = MatchOption included ((i : I.Instance) → I.Includes program c i → ⊥) (λ i. I.Includes program c (instance_of i))

-- exactly which rules the clause breaks, what it includes, and its typing
pub record ClauseSays (program : Program) (c : Stated) (judged : JudgedClause) : Type 0 where
  pub untyped : IsTrue judged.is_untyped ↔ ClauseBreaks program Typing c
  pub unsettled : IsTrue judged.is_unsettled ↔ ClauseBreaks program Settling c
  pub included : IncludedSays program c judged.included
  pub typing : SpecTypingSays (stated_system program c) judged.pool judged.typing

-- a clause in its setting, with this span of its block
abbrev pub stated : C.Names → C.Block → TypesData → Clause → Span → Stated
stated names block types clause span = record { names = names; block = block; types = types; clause = clause; span = span }

-- the judgment of a clause, whatever the span of its block, and the type of its `let`
pub record ClauseKnown (program : Program) (names : C.Names) (block : C.Block) (types : TypesData) (clause : Clause) (judged : JudgedClause) (of : Option LetType) : Type 0 where
  pub says : (span : Span) → ClauseSays program (stated names block types clause span) judged
  pub span_is : judged.span ≡ clause.block
  pub of_let : LetSays (C.clause_system program names block types clause) clause.form (let_of of)

-- ---- the clauses of an owner

-- the first so many clauses, with the `let`s of the clauses before it in scope of each
pub record FirstSay (program : Program) (names : List (Option C.LetType) → C.Names) (block : C.Block) (types : TypesData) (clauses : List Clause) (lets : List (Option C.LetType)) (judged : List JudgedClause) (n : ℕ) : Type 0 where
  pub lets_known : length lets ≡ n
  pub all_known : length judged ≡ n
  pub lets_say : LetsSay (λ before. C.clause_system program (names before) block types) clauses lets n
  pub each : (k : ℕ) (clause : Clause) (one : JudgedClause) (span : Span) → k < n → slice_get clauses k ≡ Some clause → slice_get judged k ≡ Some one
      → ClauseSays program (stated (names (take k lets)) block types clause span) one × (one.span ≡ clause.block)

-- all of them
pub record OwnerSays (program : Program) (names : List (Option C.LetType) → C.Names) (block : C.Block) (types : TypesData) (clauses : List Clause) (judged : List JudgedClause) : Type 0 where
  pub lets : List (Option C.LetType)
  pub are_lets : C.AreLets (λ before. C.clause_system program (names before) block types) clauses lets
  pub same_length : length judged ≡ length clauses
  pub each : (k : ℕ) (clause : Clause) (one : JudgedClause) (span : Span) → slice_get clauses k ≡ Some clause → slice_get judged k ≡ Some one
      → ClauseSays program (stated (names (take k lets)) block types clause span) one × (one.span ≡ clause.block)
