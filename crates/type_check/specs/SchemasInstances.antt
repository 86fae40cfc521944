-- The judgments of the clauses of included schemas.
use Rattle.std.specs.Prelude.{◌≡◌, ℕ, ◌<◌, List, length, Contains, Some, slice_get}
use Rattle.std.specs.Global.{Vec}
use Rattle.std.specs.Map.{lookup}
use Rattle.program.specs.declared.declaration.Schema.{Schema}
use Rattle.program.specs.declared.program.Program.{Program}
use Rattle.program.specs.Same.{same_schema}
use Rattle.typing_rules.specs.Clauses.{schema_names}
use Rattle.type_check.specs.ClausesInstances.{Instance}
use Rattle.type_check.specs.Judged.{OwnerSays}
use Rattle.type_check.specs.declared.clauses.judged.JudgedClause.{JudgedClause}
use Rattle.type_check.specs.Closing.{AreReached, Grows}
use Rattle.type_check.specs.Including.{Leads}
use Rattle.type_check.specs.Known.{IsKeyed, listed}
use Rattle.type_check.specs.declared.schemas.broken.JudgedInstances.{JudgedInstances}

-- the judgments of the clauses of the instance's schema
abbrev pub OwnerOf : Program → Instance → List JudgedClause → Type 0
OwnerOf program i judged = (declared : Schema) → lookup (same_schema i.schema) program.schemas ≡ Some declared
    → OwnerSays program (schema_names declared i.types) i.block i.types declared.clauses judged

-- for the first so many instances
pub record AreOwners (program : Program) (known : List Instance) (judged : List (Vec JudgedClause)) (done : ℕ) : Type 0 where
  pub size : length judged ≡ done
  pub each : (n : ℕ) (i : Instance) (of : Vec JudgedClause) → n < done → slice_get known n ≡ Some i → slice_get judged n ≡ Some of → OwnerOf program i of.items

-- the first ones and all that they reach, with the judgments of their clauses
pub record AreInstances (program : Program) (first : List Instance) (instances : JudgedInstances) : Type 0 where
  pub keyed : IsKeyed instances.known
  pub grows : Grows first (listed instances.known)
  pub reached : AreReached program first (listed instances.known)
  pub closed : (i j : Instance) → Contains (listed instances.known) i → Leads program i j → Contains (listed instances.known) j
  pub owners : AreOwners program (listed instances.known) instances.judged.items (length (listed instances.known))
