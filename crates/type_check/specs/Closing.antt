-- The instances that some reach, with the rules that each breaks and the instances that each includes.
use Rattle.std.specs.Prelude.{◌≡◌, ◌↔◌, ℕ, ◌<◌, ◌≤◌, ◌++◌, Bool, false, IsTrue, List, length, Contains, Some, slice_get, slice_index_or}
use Rattle.program.specs.declared.program.Program.{Program}
use Rattle.base.specs.declared.marked_cycles.edge.MarkedEdge.{MarkedEdge}
use Rattle.base.specs.MarkedCycles.{IsEdge}
use Rattle.type_check.specs.ClausesInstances.{Instance}
use Rattle.type_check.specs.declared.clauses.judged.ClauseRule.{ClauseRule}
use Rattle.type_check.specs.Including.{Leads, Reaches, InstanceBreaks, ReachesBroken, IsShallow}
use Rattle.type_check.specs.Leading.{AreUnmarked}

-- for the first so many instances, whether they break the rule
pub record AreJudged (program : Program) (rule : ClauseRule) (known : List Instance) (marks : List Bool) (done : ℕ) : Type 0 where
  pub size : length marks ≡ done
  pub each : (n : ℕ) (i : Instance) → n < done → slice_get known n ≡ Some i → IsTrue (slice_index_or marks n false) ↔ InstanceBreaks program rule i

-- an edge from one instance to one that it includes
pub record IsLeading (program : Program) (known : List Instance) (from to : ℕ) : Type 0 where
  pub first : Instance
  pub first_is : slice_get known from ≡ Some first
  pub next : Instance
  pub next_is : slice_get known to ≡ Some next
  pub leads : Leads program first next

-- from the first so many instances there is an edge to each instance that they include, and there are no other edges
pub record AreLinked (program : Program) (known : List Instance) (edges : List MarkedEdge) (done : ℕ) : Type 0 where
  pub unmarked : AreUnmarked edges
  pub sound : (n m : ℕ) → IsEdge edges n m false → IsLeading program known n m
  pub closed : (n : ℕ) (i j : Instance) → n < done → slice_get known n ≡ Some i → Leads program i j
      → (m : ℕ) × ((slice_get known m ≡ Some j) × IsEdge edges n m false)

-- from one on, all instances are this shallow
abbrev pub AreShallow : Program → ℕ → List Instance → ℕ → Type 0
AreShallow program depth known first = (n : ℕ) (i : Instance) → first ≤ n → slice_get known n ≡ Some i → IsShallow program depth i.schema

-- the new list is the old one, possibly with more at its end
abbrev pub Grows : List Instance → List Instance → Type 0
Grows old new = (more : List Instance) × (new ≡ old ++ more)

-- one of the first reaches each of them
abbrev pub AreReached : Program → List Instance → List Instance → Type 0
AreReached program first all = (j : Instance) → Contains all j → (i : Instance) × Contains first i × Reaches program i j

-- exactly those that reach one that breaks the rule
abbrev pub TellBroken : Program → ClauseRule → List Instance → List Bool → Type 0
TellBroken program rule known found = (n : ℕ) (i : Instance) → slice_get known n ≡ Some i → IsTrue (slice_index_or found n false) ↔ ReachesBroken program rule i
