-- The judgments of clauses of declarations, with numbers of the instances that they include.
use Rattle.std.specs.Prelude.{◌≡◌, ◌⊎◌, ℕ, ◌<◌, ◌≤◌, Bool, false, IsTrue, List, length, Contains, Option, Some, None, slice_get, slice_index_or}
use Rattle.base.specs.declared.span.Span.{Span}
use Rattle.type_check.specs.ClausesInstances as I
use Rattle.type_check.specs.Judged.{instance_of}
use Rattle.type_check.specs.declared.clauses.instance.Instance.{Instance}
use Rattle.type_check.specs.declared.clauses.judged.ClauseRule.{ClauseRule}
use Rattle.type_check.specs.declared.clauses.judged.ClauseRule.TheVariants.{Typing, Settling}
use Rattle.type_check.specs.declared.clauses.judged.JudgedClause.{JudgedClause}
use Rattle.type_check.specs.Closing.{Grows}
use Rattle.type_check.specs.declared.spec.first.RootClause.{RootClause}

-- the number of the included instance
abbrev pub StandsAt : List I.Instance → Option Instance → Option ℕ → Type 0
StandsAt known None number = number ≡ None
StandsAt known (Some i) number = (n : ℕ) × ((number ≡ Some n) × (slice_get known n ≡ Some (instance_of i)))

-- and that instance is the only one that may have been appended
pub record IsNumberOf (old new : List I.Instance) (included : Option Instance) (number : Option ℕ) : Type 0 where
  pub grows : Grows old new
  pub stands : StandsAt new included number
  pub added : (n : ℕ) (i : I.Instance) → length old ≤ n → slice_get new n ≡ Some i → (k : Instance) × ((included ≡ Some k) × (instance_of k ≡ i))

-- a root has the components of the judgment of its clause
pub record IsRootOf (known : List I.Instance) (one : JudgedClause) (root : RootClause) : Type 0 where
  pub span : root.span ≡ one.span
  pub untyped : root.is_untyped ≡ one.is_untyped
  pub unsettled : root.is_unsettled ≡ one.is_unsettled
  pub included : StandsAt known one.included root.included

-- the first so many, and each instance is included by one of these
pub record AreNumbered (known : List I.Instance) (judged : List JudgedClause) (roots : List RootClause) (n : ℕ) : Type 0 where
  pub same_length : length roots ≡ n
  pub each : (k : ℕ) (one : JudgedClause) (root : RootClause) → k < n → slice_get judged k ≡ Some one → slice_get roots k ≡ Some root → IsRootOf known one root
  pub only : (m : ℕ) (i : I.Instance) → slice_get known m ≡ Some i → (one : JudgedClause) × ((k : Instance) × (Contains judged one × (one.included ≡ Some k) × (instance_of k ≡ i)))

-- it breaks the rule itself, or its included instance is broken
abbrev pub RootIsBroken : Bool → Option ℕ → List Bool → Type 0
RootIsBroken is_so included broken = IsTrue is_so ⊎ ((n : ℕ) × ((included ≡ Some n) × IsTrue (slice_index_or broken n false)))

abbrev pub is_so_itself : ClauseRule → RootClause → Bool
is_so_itself Typing root = root.is_untyped
is_so_itself Settling root = root.is_unsettled

-- a root with this span breaks the rule
abbrev pub BreaksAmong : ClauseRule → List Bool → List RootClause → Span → Type 0
BreaksAmong rule broken roots span =
    (root : RootClause) × Contains roots root × (root.span ≡ span) × RootIsBroken (is_so_itself rule root) root.included broken
