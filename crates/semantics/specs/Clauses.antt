-- What the clauses of a spec block say of the two ends of a run. Source: the Move Specification Language reference, "Spec Blocks and
-- Conditions", "Pre and Post State", "Let Bindings", "Modifies Condition" and "Schemas".
use Rattle.std.specs.Prelude.{ℕ, zero, suc, ◌+◌, ◌==◌, Bool, true, false, not, ◌&&◌, List, [], ◌∷◌, ◌++◌, map, if◌then◌else◌}
use Rattle.std.specs.List.{list_any}
use Rattle.base.specs.TypeData.{TypeData}
use Rattle.program.specs.declared.clause.ConditionKind.{ConditionKind}
use Rattle.program.specs.declared.clause.ConditionKind.TheVariants.{Requires, Ensures, AbortsIf, Invariant, UpdateInvariant}
use Rattle.program.specs.declared.program.SchemaId.{SchemaId}
use Rattle.program.specs.declared.spec.SpecName.{SpecName}
use Rattle.program.specs.declared.spec.SpecName.TheVariants.{Parameter, Local, Result, Let, Variable, Field, Quantified}
use Rattle.fol.specs.Val.{Val, NothingValue}
use Rattle.fol.specs.Operators.{is_true}
use Rattle.fol.specs.TypedValue.{put_types}
use Rattle.fol.specs.Truth.{Interpretation}
use Rattle.semantics.specs.SpecTruth.{SpecTree, Moment, View, Invocations, SpecFunctions, meaning, invocations, item}

-- ---- typed clauses. Their types are over the type parameters of the owner of the block, those of included schemas too.

-- a resource type, and an address at which its value may change
pub record Location : Type 0 where
  pub resource : TypeData
  pub address : SpecTree

-- a schema at these type arguments: as specifications read them, and as they are written where they are written
pub record SchemaInstance : Type 0 where
  pub schema : SchemaId
  pub read : List TypeData
  pub named : List TypeData

pub data TypedClause : Type 0 where
  Condition : ConditionKind → SpecTree → TypedClause
  Modifies : List Location → TypedClause
  -- `let post`, or `let`
  LetIs : Bool → SpecTree → TypedClause
  -- the clauses of a schema, with what stands for each of its variables
  Includes : SchemaInstance → List SpecTree → TypedClause

-- ---- the two ends of a run

pub record Ends : Type 0 where
  pub entry : Moment
  pub exit : Moment

abbrev pub at_entry : Ends → View
at_entry e = record { now = e.entry; old = e.entry; bound = λ n. NothingValue }

abbrev pub at_exit : Ends → View
at_exit e = record { now = e.exit; old = e.entry; bound = λ n. NothingValue }

-- `ensures` and update invariants speak of the exit, all else of the entry
abbrev pub view_of : ConditionKind → Ends → View
view_of Ensures e = at_exit e
view_of UpdateInvariant e = at_exit e
view_of Requires e = at_entry e
view_of AbortsIf e = at_entry e
view_of Invariant e = at_entry e

-- what gives each clause its meaning: spec functions, and the interpretation
pub record Reading : Type 0 where
  pub calls : Invocations
  pub interpretation : Interpretation

abbrev pub value_in : Reading → SpecTree → View → Val
value_in r t v = meaning r.calls r.interpretation t v

-- ---- `let`

abbrev pub let_name : ℕ → Val → (SpecName → Val) → SpecName → Val
let_name k x names (Let n) = if n == k then x else names (Let n)
let_name k x names (Parameter n) = names (Parameter n)
let_name k x names (Local n) = names (Local n)
let_name k x names (Result n) = names (Result n)
let_name k x names (Variable n) = names (Variable n)
let_name k x names (Field n) = names (Field n)
let_name k x names (Quantified n) = names (Quantified n)

abbrev pub with_let : ℕ → Val → Ends → Ends
with_let k x e = record {
  entry = record { name = let_name k x e.entry.name; storage = e.entry.storage };
  exit = record { name = let_name k x e.exit.name; storage = e.exit.storage };
}

-- `let x = e` is e at the entry, `let post x = e` is e at the exit
abbrev pub let_view : Bool → Ends → View
let_view is_post e = if is_post then at_exit e else at_entry e

-- the name of each `let`, by the number of its clause, stands for its value; it may use those before it
abbrev pub with_lets : Reading → ℕ → List TypedClause → Ends → Ends
with_lets r k [] e = e
with_lets r k (LetIs is_post t ∷ cs) e = with_lets r (k + 1) cs (with_let k (value_in r t (let_view is_post e)) e)
with_lets r k (Condition kind t ∷ cs) e = with_lets r (k + 1) cs e
with_lets r k (Modifies locations ∷ cs) e = with_lets r (k + 1) cs e
with_lets r k (Includes schema given ∷ cs) e = with_lets r (k + 1) cs e

-- ---- variables of schemas

abbrev pub variable_name : List Val → SpecName → Val
variable_name xs (Variable k) = item xs k
variable_name xs _ = NothingValue

-- a variable stands for what is given for it, at each moment for what that is there
abbrev pub schema_ends : Reading → List SpecTree → Ends → Ends
schema_ends r given e = record {
  entry = record { name = variable_name (map (λ t. value_in r t (at_entry e)) given); storage = e.entry.storage };
  exit = record { name = variable_name (map (λ t. value_in r t (at_exit e)) given); storage = e.exit.storage };
}

-- ---- what clauses say

pub data Statement : Type 0 where
  -- a condition of this kind, and whether it holds
  Says : ConditionKind → Bool → Statement
  -- `modifies`: of a resource type the value at an address may change
  MayChange : TypeData → Val → Statement

abbrev pub locations_say : Reading → Ends → List Location → List Statement
locations_say r e [] = []
locations_say r e (l ∷ ls) = MayChange (put_types r.interpretation.named l.resource) (value_in r l.address (at_entry e)) ∷ locations_say r e ls

-- what the clauses of a schema say of these ends, whose names are its variables
abbrev pub SchemaStatements : Type 0
SchemaStatements = SchemaInstance → Ends → List Statement

abbrev pub clauses_say : SchemaStatements → Reading → List TypedClause → Ends → List Statement
clauses_say included r [] e = []
clauses_say included r (Condition kind t ∷ cs) e = Says kind (is_true (value_in r t (view_of kind e))) ∷ clauses_say included r cs e
clauses_say included r (Modifies locations ∷ cs) e = locations_say r e locations ++ clauses_say included r cs e
clauses_say included r (LetIs is_post t ∷ cs) e = clauses_say included r cs e
clauses_say included r (Includes schema given ∷ cs) e = included schema (schema_ends r given e) ++ clauses_say included r cs e

abbrev pub SchemaClauses : Type 0
SchemaClauses = SchemaInstance → List TypedClause

-- of schemas that lead over at most so many others; none leads back to itself
abbrev pub schemas_say : SchemaClauses → Reading → ℕ → SchemaStatements
schemas_say schemas r zero schema e = []
schemas_say schemas r (suc n) schema e = clauses_say (schemas_say schemas r n) r (schemas schema) (with_lets r 0 (schemas schema) e)

-- what a program declares for specifications: no chain of spec functions or of schemas is longer than `levels`
pub record SpecDeclarations : Type 0 where
  pub functions : SpecFunctions
  pub schemas : SchemaClauses
  pub levels : ℕ

abbrev pub reading_of : SpecDeclarations → Interpretation → Reading
reading_of d m = record { calls = invocations d.functions d.levels; interpretation = m }

-- what the clauses of a block say of these ends, included schemas in place
abbrev pub statements : SpecDeclarations → Interpretation → List TypedClause → Ends → List Statement
statements d m clauses e =
    clauses_say (schemas_say d.schemas (reading_of d m) d.levels) (reading_of d m) clauses (with_lets (reading_of d m) 0 clauses e)

-- ---- statements of a kind

abbrev pub same_kind : ConditionKind → ConditionKind → Bool
same_kind Requires Requires = true
same_kind Ensures Ensures = true
same_kind AbortsIf AbortsIf = true
same_kind Invariant Invariant = true
same_kind UpdateInvariant UpdateInvariant = true
same_kind _ _ = false

abbrev pub is_of : ConditionKind → Statement → Bool
is_of kind (Says k b) = same_kind kind k
is_of kind (MayChange t a) = false

abbrev pub is_true_of : ConditionKind → Statement → Bool
is_true_of kind (Says k b) = same_kind kind k && b
is_true_of kind (MayChange t a) = false

abbrev pub is_false_of : ConditionKind → Statement → Bool
is_false_of kind (Says k b) = same_kind kind k && not b
is_false_of kind (MayChange t a) = false

abbrev pub has_kind : ConditionKind → List Statement → Bool
has_kind kind ss = list_any (is_of kind) ss

abbrev pub all_hold : ConditionKind → List Statement → Bool
all_hold kind ss = not (list_any (is_false_of kind) ss)

abbrev pub some_holds : ConditionKind → List Statement → Bool
some_holds kind ss = list_any (is_true_of kind) ss
