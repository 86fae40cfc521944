-- The states in which a local may be where control reaches a node.
use Rattle.std.specs.Prelude.{◌≡◌, ℕ, ◌+◌, ◌*◌, ◌<◌, Bool, true, false, List, length, ◌↔◌, Some, slice_get}
use Rattle.typing_rules.specs.LocalRules.{BodyFacts, Comes}
use Rattle.definite_assignment.specs.declared.outcome.Ends.{Ends}
use Rattle.definite_assignment.specs.declared.points.states.LocalStates.{LocalStates}
use Rattle.definite_assignment.specs.declared.points.states.LocalState.{LocalState}
use Rattle.definite_assignment.specs.declared.points.states.LocalState.TheVariants.{Unreached, Unassigned, Assigned, Unsure}
use Rattle.definite_assignment.specs.Tables.{begun}

-- the table gives them for the 64 locals from this number on
pub record TellsFrom (body : BodyFacts) (base : ℕ) (table : List Ends) : Type 0 where
  pub same_length : length table ≡ length body.nodes
  pub each : (i n : ℕ) (state : Bool) → i < 64 → n < length table → (begun table i n state ≡ true) ↔ Comes body (base + i) n state

pub record AreStates (body : BodyFacts) (states : LocalStates) : Type 0 where
  pub count : length body.types < length states.groups.items * 64
  pub each : (g : ℕ) (table : List Ends) → slice_get states.groups.items g ≡ Some table → TellsFrom body (g * 64) table

-- whether some path reaches the node with the local without a value, and whether some with the local with one
abbrev pub may_be : LocalState → Bool → Bool
may_be Unreached has = false
may_be Unassigned false = true
may_be Unassigned true = false
may_be Assigned false = false
may_be Assigned true = true
may_be Unsure has = true

-- the state of a local at a node is this one
pub record IsStateOf (body : BodyFacts) (l n : ℕ) (state : LocalState) : Type 0 where
  pub comes : (has : Bool) → (may_be state has ≡ true) ↔ Comes body l n has
