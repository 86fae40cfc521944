-- The type tables of the clauses of included schemas.
use Rattle.std.specs.Prelude.{◌≡◌, Contains, List, Some}
use Rattle.std.specs.Map.{lookup}
use Rattle.base.specs.Pairs.{Paired}
use Rattle.program.specs.declared.declaration.Schema.{Schema}
use Rattle.program.specs.declared.program.Program.{Program}
use Rattle.program.specs.Same.{same_schema}
use Rattle.typing_rules.specs.Clauses.{schema_names}
use Rattle.typing_rules.specs.Faults.{Stated, IsStated}
use Rattle.type_check.specs.ClausesInstances.{Instance, Includes}
use Rattle.type_check.specs.Known.{IsKeyed, listed}
use Rattle.type_check.specs.Clauses.{AreClauseTables}
use Rattle.type_check.specs.declared.typed_program.instances.InstanceTables.{InstanceTables}
use Rattle.type_check.specs.declared.typed_program.TypeTable.{TypeTable}

-- the tables of the clauses of an included schema, with these types for its type parameters, in a block of this kind
pub record AreTablesOf (program : Program) (i : Instance) (tables : List TypeTable) : Type 0 where
  pub declared : Schema
  pub lookup_is : lookup (same_schema i.schema) program.schemas ≡ Some declared
  pub typed : AreClauseTables program (schema_names declared i.types) i.block i.types declared.clauses tables

-- the tables of exactly the instances that some clause of the program includes
pub record AreInstanceTables (program : Program) (instances : InstanceTables) : Type 0 where
  pub keyed : IsKeyed instances.known
  pub all : (c : Stated) (i : Instance) → IsStated program c → Includes program c i → Contains (listed instances.known) i
  pub only : (i : Instance) → Contains (listed instances.known) i → (c : Stated) × IsStated program c × Includes program c i
  pub typed : Paired (AreTablesOf program) (listed instances.known) instances.clauses.items
