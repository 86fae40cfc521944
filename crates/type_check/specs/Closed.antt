-- Instances that are done.
use Rattle.std.specs.Prelude.{◌≡◌, ◌⊎◌, ◌↔◌, ℕ, suc, ◌<◌, ◌≤◌, Bool, false, IsTrue, List, length, Contains, Some, slice_get}
use Rattle.program.specs.declared.program.Program.{Program}
use Rattle.base.specs.declared.marked_cycles.edge.MarkedEdge.{MarkedEdge}
use Rattle.base.specs.MarkedCycles.{IsEdge}
use Rattle.type_check.specs.ClausesInstances.{Instance}
use Rattle.type_check.specs.Judged.{instance_of}
use Rattle.type_check.specs.declared.clauses.judged.JudgedClause.{JudgedClause}
use Rattle.type_check.specs.declared.clauses.judged.ClauseRule.TheVariants.{Typing, Settling}
use Rattle.type_check.specs.Closing.{AreJudged, AreLinked, Grows}
use Rattle.type_check.specs.Including.{Leads, InstanceBreaks}
use Rattle.type_check.specs.SchemasInstances.{AreOwners}
use Rattle.type_check.specs.Known.{IsKeyed, listed}
use Rattle.type_check.specs.declared.schemas.closing.Closure.{Closure}

-- some element has the property
abbrev pub IsAny : {A : Type 0} → (A → Type 0) → List A → Type 0
IsAny IsSo xs = (x : _) × Contains xs x × IsSo x

-- the judgments of the clauses of an instance determine which rules it breaks, and which instances it includes
pub record InstanceSays (program : Program) (i : Instance) (judged : List JudgedClause) : Type 0 where
  pub untyped : IsAny (λ one. IsTrue one.is_untyped) judged ↔ InstanceBreaks program Typing i
  pub unsettled : IsAny (λ one. IsTrue one.is_unsettled) judged ↔ InstanceBreaks program Settling i
  pub leads : (j : Instance) → IsAny (λ one. (k : _) × (one.included ≡ Some k) × (instance_of k ≡ j)) judged ↔ Leads program i j

-- the instances that clauses include are in the list, with an edge to each, and there are no other new edges
pub record Links (old new : List Instance) (before after : List MarkedEdge) (number : ℕ) (judged : List JudgedClause) : Type 0 where
  pub grows : Grows old new
  pub stays : (n m : ℕ) (marked : Bool) → IsEdge before n m marked → IsEdge after n m marked
  pub only : (n m : ℕ) (marked : Bool) → IsEdge after n m marked
      → IsEdge before n m marked ⊎ ((n ≡ number) × (marked ≡ false) × IsAny (λ one. (k : _) × (one.included ≡ Some k) × (slice_get new m ≡ Some (instance_of k))) judged)
  pub all : (one : JudgedClause) (k : _) → Contains judged one → one.included ≡ Some k → (m : ℕ) × ((slice_get new m ≡ Some (instance_of k)) × IsEdge after number m false)
  pub added : (n : ℕ) (j : Instance) → length old ≤ n → slice_get new n ≡ Some j → IsAny (λ one. (k : _) × (one.included ≡ Some k) × (instance_of k ≡ j)) judged

-- the first so many instances are done
pub record IsClosedTo (program : Program) (c : Closure) (done : ℕ) : Type 0 where
  pub keyed : IsKeyed c.known
  pub within : done ≤ length (listed c.known)
  pub untyped : AreJudged program Typing (listed c.known) c.untyped.items done
  pub unsettled : AreJudged program Settling (listed c.known) c.unsettled.items done
  pub linked : AreLinked program (listed c.known) c.edges.items done
  pub owners : AreOwners program (listed c.known) c.judged.items done

-- and one more, which includes the instances that were appended
pub record IsClosedNext (program : Program) (old new : Closure) (number : ℕ) : Type 0 where
  pub closed : IsClosedTo program new (suc number)
  pub grows : Grows (listed old.known) (listed new.known)
  pub added : (n : ℕ) (j : Instance) → length (listed old.known) ≤ n → slice_get (listed new.known) n ≡ Some j
      → (i : Instance) × ((slice_get (listed old.known) number ≡ Some i) × Leads program i j)

-- and all up to the end
pub record IsClosedLevel (program : Program) (old new : Closure) (first end : ℕ) : Type 0 where
  pub closed : IsClosedTo program new end
  pub grows : Grows (listed old.known) (listed new.known)
  pub added : (n : ℕ) (j : Instance) → end ≤ n → slice_get (listed new.known) n ≡ Some j
      → (m : ℕ) × ((first ≤ m) × (m < end) × ((i : Instance) × ((slice_get (listed old.known) m ≡ Some i) × Leads program i j)))
