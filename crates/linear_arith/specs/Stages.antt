-- The invariants of an elimination.
use Rattle.std.specs.Prelude.{◌≡◌, ◌≢◌, ◌⊎◌, ℕ, ◌<◌, true, List, [], ◌∷◌, ◌++◌, length, map, pos, ◌≤ℤ◌, All, Contains}
use Rattle.std.proofs.Common.{get_or, take}
use Rattle.std.specs.List.{AllPairs}
use Rattle.std.proofs.Common.{ℤ, ◌<ℤ◌}
use Rattle.std.specs.BTreeSet.{BTreeSet, contains}
use Rattle.std.specs.Global.{Vec}
use Rattle.std.specs.declared.cmp.Ordering.{Ordering}
use Rattle.std.specs.Ordering.{int_cmp}
use Rattle.std.specs.Cmp.Lexicographic.{slice_cmp}
use Rattle.linear_arith.specs.Inequality.{Inequality, coefficient, padded, IsWithinWidth}
use Rattle.linear_arith.specs.Closure.{IsWithout, HasSums, IsClosed, IsElimination}
use Rattle.linear_arith.specs.Fits.{IsFitting}
use Rattle.linear_arith.specs.Reduction.{IsTimes}
use Rattle.linear_arith.specs.Combination.{combination}
use Rattle.linear_arith.specs.Elimination.{IsRowOfStage, IsFound, AreDifferent}
use Rattle.linear_arith.specs.declared.elimination.Derived.{Derived}
use Rattle.linear_arith.specs.declared.elimination.Stage.{Stage}
use Rattle.linear_arith.specs.declared.elimination.Elimination.{Elimination}

-- multipliers of the given constraints, none of them negative
pub record AreMultipliers (rows : List Inequality) (ms : List ℤ) : Type 0 where
  pub one_each : length ms ≡ length rows
  pub not_negative : All (λ m. pos 0 ≤ℤ m) ms

-- a constraint without unknowns has a bound of at least 0
abbrev pub IsSound : Inequality → Type 0
IsSound row = ((unknown : ℕ) → coefficient unknown row ≡ pos 0) → pos 0 ≤ℤ row.bound

-- a constraint of the stage after these unknowns
pub record IsDerived (width : ℕ) (rows : List Inequality) (unknowns : List ℕ) (made : Derived) : Type 0 where
  pub of_stage : IsRowOfStage width rows unknowns made.row made.multipliers
  pub is_total : made.total ≡ combination width made.multipliers rows
  pub multipliers : AreMultipliers rows made.multipliers
  pub same_width : length made.row.coefficients ≡ width
  pub scale : ℕ
  pub positive : 0 < scale
  pub is_scaled : IsTimes scale made.row made.total
  pub without : IsWithout unknowns made.row
  pub sound : IsSound made.row
  pub fits : IsFitting made.row

-- two constraints that an elimination has found, of the stage after all of these unknowns but the last, which cancels
-- in their sum
pub record AreBefore (width : ℕ) (rows found : List Inequality) (unknowns : List ℕ) (unknown : ℕ) (upper lower : Derived) : Type 0 where
  pub before : List ℕ
  pub is_last : before ++ unknown ∷ [] ≡ unknowns
  pub upper_of_stage : IsDerived width rows before upper
  pub lower_of_stage : IsDerived width rows before lower
  pub above : pos 0 <ℤ coefficient unknown upper.total
  pub below : coefficient unknown lower.total <ℤ pos 0
  pub elimination : IsElimination width rows before unknowns found
  pub upper_found : Contains found upper.row
  pub lower_found : Contains found lower.row

-- the constraints that were removed from the stage after these unknowns when the next one was eliminated
pub record IsStage (width : ℕ) (rows : List Inequality) (unknowns : List ℕ) (stage : Stage) : Type 0 where
  pub upper : All (IsDerived width rows unknowns) stage.upper.items
  pub lower : All (IsDerived width rows unknowns) stage.lower.items
  pub above : All (λ (made : Derived). pos 0 <ℤ coefficient stage.unknown made.total) stage.upper.items
  pub below : All (λ (made : Derived). coefficient stage.unknown made.total <ℤ pos 0) stage.lower.items

-- the constraints that were removed from some stage
pub record IsOfStages (width : ℕ) (rows : List Inequality) (stage : Stage) : Type 0 where
  pub unknowns : List ℕ
  pub is_stage : IsStage width rows unknowns stage

-- the same as `IsStage`, where that unknown is the last of these, and an elimination has found the constraints
pub record IsStageBefore (width : ℕ) (rows found : List Inequality) (unknowns : List ℕ) (stage : Stage) : Type 0 where
  pub before : List ℕ
  pub is_last : before ++ stage.unknown ∷ [] ≡ unknowns
  pub is_stage : IsStage width rows before stage
  pub elimination : IsElimination width rows before unknowns found
  pub upper_found : All (λ (made : Derived). Contains found made.row) stage.upper.items
  pub lower_found : All (λ (made : Derived). Contains found made.row) stage.lower.items

abbrev pub key_cmp : Vec ℤ → Vec ℤ → Ordering
key_cmp first second = slice_cmp int_cmp first.items second.items

-- one of the keys has the numbers of the constraint, the bound first
pub record HasKey (keys : BTreeSet (Vec ℤ)) (row : Inequality) : Type 0 where
  pub key : Vec ℤ
  pub numbers : key.items ≡ row.bound ∷ row.coefficients
  pub stands : contains key_cmp keys key ≡ true

-- different constraints of the stages, each with its key, and no other keys
pub record AreFound (width : ℕ) (rows : List Inequality) (unknowns : List ℕ) (keys : BTreeSet (Vec ℤ)) (found : List Inequality) : Type 0 where
  pub of_stages : All (IsFound width rows unknowns) found
  pub same_width : All (λ row. length row.coefficients ≡ width) found
  pub different : AreDifferent found
  pub keyed : All (HasKey keys) found
  pub no_other : (row : Inequality) → HasKey keys row → Contains found row
  pub sound : All IsSound found

-- the invariant of an elimination in progress
pub record IsUnderWay (width : ℕ) (rows : List Inequality) (elimination : Elimination) : Type 0 where
  pub within : IsWithinWidth width rows
  pub live : All (IsDerived width rows elimination.unknowns.items) elimination.live.items
  pub live_found : All (λ (made : Derived). Contains elimination.found made.row) elimination.live.items
  pub are_found : AreFound width rows elimination.unknowns.items elimination.keys elimination.found
  pub stages : All (IsOfStages width rows) elimination.stages.items
  pub below_limit : length elimination.found < 5000

-- one of these is this constraint
pub record StandsIn (live : List Derived) (row : Inequality) : Type 0 where
  pub made : Derived
  pub is_live : Contains live made
  pub same : made.row ≡ row

-- the found constraints without the eliminated unknowns are in the current stage
abbrev pub KeepsRows : Elimination → Type 0
KeepsRows elimination = (row : Inequality) → Contains elimination.found row → IsWithout elimination.unknowns.items row → StandsIn elimination.live.items row

-- the constraints of a stage, by the sign of an unknown's coefficient
pub record AreParted (unknown : ℕ) (live uppers lowers others : List Derived) : Type 0 where
  pub upper : (made : Derived) → Contains live made → pos 0 <ℤ coefficient unknown made.total → Contains uppers made
  pub lower : (made : Derived) → Contains live made → coefficient unknown made.total <ℤ pos 0 → Contains lowers made
  pub other : (made : Derived) → Contains live made → coefficient unknown made.total ≡ pos 0 → Contains others made
  pub upper_from : (made : Derived) → Contains uppers made → Contains live made
  pub lower_from : (made : Derived) → Contains lowers made → Contains live made

-- a constraint of the current stage
pub record IsFresh (elimination : Elimination) (row : Inequality) : Type 0 where
  pub is_live : StandsIn elimination.live.items row
  pub without : IsWithout elimination.unknowns.items row

-- constraints were added to the current stage, and none was removed
pub record IsExtended (old new : Elimination) : Type 0 where
  pub unknowns : new.unknowns.items ≡ old.unknowns.items
  pub found : (row : Inequality) → Contains old.found row → Contains new.found row
  pub live : (made : Derived) → Contains old.live.items made → Contains new.live.items made
  pub fresh : (row : Inequality) → Contains new.found row → Contains old.found row ⊎ IsFresh new row
  pub stages : new.stages.items ≡ old.stages.items

-- the constraint is one of those that were removed from the stage
abbrev pub IsRemovedFrom : Stage → Inequality → Type 0
IsRemovedFrom stage row = StandsIn stage.upper.items row ⊎ StandsIn stage.lower.items row

-- the found constraints on the unknown of the stage after these unknowns were removed from it, and each sum that
-- cancels it is found
pub record IsWhole (found : List Inequality) (unknowns : List ℕ) (stage : Stage) : Type 0 where
  pub is_found : (row : Inequality) → IsRemovedFrom stage row → Contains found row
  pub without : (row : Inequality) → IsRemovedFrom stage row → IsWithout unknowns row
  pub whole : (row : Inequality) → Contains found row → IsWithout unknowns row → coefficient stage.unknown row ≢ pos 0 → IsRemovedFrom stage row
  pub sums : HasSums found unknowns stage.unknown

abbrev pub unknowns_of : List Stage → List ℕ
unknowns_of stages = map (λ (stage : Stage). stage.unknown) stages

-- each of the stages is such a stage, after the unknowns of those before it
abbrev pub AreWhole : List Inequality → List Stage → Type 0
AreWhole found stages = (k : ℕ) (d : Stage) → k < length stages → IsWhole found (unknowns_of (take k stages)) (get_or stages k d)

-- the elimination has the given constraints and all sums for the eliminated unknowns
pub record IsCaughtUp (width : ℕ) (rows : List Inequality) (elimination : Elimination) : Type 0 where
  pub begins : All (λ row. Contains elimination.found (padded width row)) rows
  pub keeps : KeepsRows elimination
  pub closed : IsClosed elimination.found elimination.unknowns.items
  pub below : All (λ unknown. unknown < width) elimination.unknowns.items
  pub different : AllPairs (λ first second. first ≢ second) elimination.unknowns.items

-- it keeps a stage for each eliminated unknown
pub record KeepsStages (elimination : Elimination) : Type 0 where
  pub whole : AreWhole elimination.found elimination.stages.items
  pub unknowns : unknowns_of elimination.stages.items ≡ elimination.unknowns.items

-- an unknown is in one of the constraints
pub record IsLeft (live : List Derived) (unknown : ℕ) : Type 0 where
  pub made : Derived
  pub is_live : Contains live made
  pub stands : coefficient unknown made.row ≢ pos 0

-- none of the first `width` unknowns is in one of the constraints
abbrev pub NoneIsLeft : ℕ → List Derived → Type 0
NoneIsLeft width live = (unknown : ℕ) → unknown < width → All (λ (made : Derived). coefficient unknown made.row ≡ pos 0) live

-- all constraints that were removed from the stage fit
pub record IsFittingStage (stage : Stage) : Type 0 where
  pub upper : All (λ (made : Derived). IsFitting made.row) stage.upper.items
  pub lower : All (λ (made : Derived). IsFitting made.row) stage.lower.items

-- all stages of a complete elimination, and the constraints that it has found
pub record HasAllStages (width : ℕ) (rows : List Inequality) (stages : List Stage) : Type 0 where
  pub found : List Inequality
  pub within : IsWithinWidth width rows
  pub begins : All (λ row. Contains found (padded width row)) rows
  pub same_width : All (λ row. length row.coefficients ≡ width) found
  pub sound : All IsSound found
  pub whole : AreWhole found stages
  pub different : AllPairs (λ first second. first ≢ second) (unknowns_of stages)
  pub no_unknown_left : (row : Inequality) → Contains found row → IsWithout (unknowns_of stages) row → (unknown : ℕ) → coefficient unknown row ≡ pos 0
  pub of_stages : All (IsOfStages width rows) stages
  pub elimination : IsElimination width rows (unknowns_of stages) (unknowns_of stages) found
