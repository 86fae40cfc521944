-- The rules on the locals of one body, over all its control paths. Source: The Move Book, "Local Variables and Scope":
-- a local is used only where it has a value; "Abilities": a value without drop is not left behind.
use Rattle.std.specs.Prelude.{◌≡◌, ℕ, zero, suc, ◌<◌, Bool, true, false, ltb, List, [], ◌∷◌, ◌++◌, length}
use Rattle.program.specs.declared.declaration.AbilitySet.{AbilitySet}
use Rattle.typing_rules.specs.Events.{Event, Rule, Unassigned, Undropped, has_behind, is_broken}
use Rattle.typing_rules.specs.Flows.{Flow, Scope}
use Rattle.typing_rules.specs.Paths.{Exit, Stopped, Goes}
use Rattle.typing_rules.specs.Pieces.{CodeNode, drops, whole_flow}

-- the numbers below a number
abbrev pub first_numbers : ℕ → List ℕ
first_numbers zero = []
first_numbers (suc n) = first_numbers n ++ n ∷ []

-- a body: the abilities of the types of its locals, the number of locals that are parameters (the first ones), and its
-- nodes
pub record BodyFacts : Type 0 where
  pub types : List AbilitySet
  pub parameters : ℕ
  pub nodes : List CodeNode

-- the scope of the parameters ends with the function
abbrev pub body_flow : BodyFacts → Flow
body_flow body = Scope (first_numbers body.parameters) (whole_flow body.types body.nodes)

-- at the start the parameters have values
abbrev pub starts_with : BodyFacts → ℕ → Bool
starts_with body l = ltb l body.parameters

-- on some path the events of a local break a rule
pub record IsBrokenAt (rule : Rule) (body : BodyFacts) (l : ℕ) : Type 0 where
  pub is_local : l < length body.types
  pub events : List Event
  pub exit : Exit
  pub path : Goes (body_flow body) events exit
  pub broken : is_broken rule l (starts_with body l) events ≡ true

-- on some path some local is used without a value
abbrev pub IsUnassigned : BodyFacts → Type 0
IsUnassigned body = (l : ℕ) × IsBrokenAt Unassigned body l

-- on some path the value of a local whose type has no drop is left behind
abbrev pub IsUndropped : BodyFacts → Type 0
IsUndropped body = (l : ℕ) × (drops body.types l ≡ false) × IsBrokenAt Undropped body l

-- a path that comes to the node with this number, and on which the local has a value there, or has none
pub record Comes (body : BodyFacts) (l n : ℕ) (has : Bool) : Type 0 where
  pub events : List Event
  pub path : Goes (body_flow body) events (Stopped n)
  pub has_is : has_behind l (starts_with body l) events ≡ has
