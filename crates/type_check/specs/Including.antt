-- Which included schemas reach which, and which of them break a rule. Source: the Move Specification Language
-- reference, "Schemas".
use Rattle.std.specs.Prelude.{◌≡◌, ℕ, zero, suc, Contains, List, Some}
use Rattle.std.specs.Map.{lookup}
use Rattle.base.specs.TypeData.{TypesData}
use Rattle.base.specs.declared.span.Span.{Span}
use Rattle.program.specs.declared.clause.Clause.{Clause}
use Rattle.program.specs.declared.clause.ClauseForm.TheVariants.{Include}
use Rattle.program.specs.declared.declaration.Schema.{Schema}
use Rattle.program.specs.declared.program.Program.{Program}
use Rattle.program.specs.declared.program.SchemaId.{SchemaId}
use Rattle.program.specs.Same.{same_schema}
use Rattle.typing_rules.specs.Faults.{Stated}
use Rattle.type_check.specs.ClausesInstances.{Instance, Includes, IsOfInstance}
use Rattle.type_check.specs.Judged.{ClauseBreaks}
use Rattle.type_check.specs.declared.clauses.judged.ClauseRule.{ClauseRule}

-- a clause of the one includes the other
pub record Leads (program : Program) (i j : Instance) : Type 0 where
  pub span : Span
  pub clause : Stated
  pub is_of : IsOfInstance program i span clause
  pub includes : Includes program clause j

-- over any number of includes
pub data Reaches (program : Program) : Instance → Instance → Type 0 where
  Here : {i : Instance} → Reaches program i i
  Over : {i j k : Instance} → Leads program i j → Reaches program j k → Reaches program i k

-- a clause of the instance breaks the rule
pub record InstanceBreaks (program : Program) (rule : ClauseRule) (i : Instance) : Type 0 where
  pub span : Span
  pub clause : Stated
  pub is_of : IsOfInstance program i span clause
  pub breaks : ClauseBreaks program rule clause

-- it reaches an instance that breaks the rule
pub record ReachesBroken (program : Program) (rule : ClauseRule) (i : Instance) : Type 0 where
  pub last : Instance
  pub reaches : Reaches program i last
  pub breaks : InstanceBreaks program rule last

-- a clause of a schema includes another schema, which is declared
pub record Names (program : Program) (s t : SchemaId) : Type 0 where
  pub declared : Schema
  pub lookup_is : lookup (same_schema s) program.schemas ≡ Some declared
  pub clause : Clause
  pub one : Contains declared.clauses clause
  pub types : TypesData
  pub given : List ℕ
  pub form_is : clause.form ≡ Include t types given
  pub found : Schema
  pub found_is : lookup (same_schema t) program.schemas ≡ Some found

-- each chain of includes from this schema on has fewer includes than this
abbrev pub IsShallow : Program → ℕ → SchemaId → Type 0
IsShallow program zero s = ⊥
IsShallow program (suc n) s = (t : SchemaId) → Names program s t → IsShallow program n t
