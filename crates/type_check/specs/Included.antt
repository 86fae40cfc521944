-- The schemas that are included in a program.
use Rattle.std.specs.Prelude.{length, Contains}
use Rattle.program.specs.declared.program.Program.{Program}
use Rattle.typing_rules.specs.Faults.{Stated, IsStated}
use Rattle.type_check.specs.ClausesInstances.{Instance, Includes}
use Rattle.type_check.specs.SchemasInstances.{AreOwners}
use Rattle.type_check.specs.Known.{IsKeyed, listed}
use Rattle.type_check.specs.declared.schemas.broken.JudgedInstances.{JudgedInstances}

-- exactly the instances that some clause of the program includes, with the judgments of their clauses
pub record AreIncluded (program : Program) (instances : JudgedInstances) : Type 0 where
  pub keyed : IsKeyed instances.known
  pub all : (c : Stated) (i : Instance) → IsStated program c → Includes program c i → Contains (listed instances.known) i
  pub only : (i : Instance) → Contains (listed instances.known) i → (c : Stated) × IsStated program c × Includes program c i
  pub owners : AreOwners program (listed instances.known) instances.judged.items (length (listed instances.known))
