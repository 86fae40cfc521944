-- A rule that one event, after those before it, breaks.
use Rattle.std.specs.Prelude.{◌≡◌, ℕ, Bool, true, List, ◌∷◌, ◌++◌}
use Rattle.typing_rules.specs.Events.{Event, Rule, has_behind, breaks}

pub record IsBrokenBy (rule : Rule) (l : ℕ) (had : Bool) (events : List Event) : Type 0 where
  pub before : List Event
  pub event : Event
  pub behind : List Event
  pub split : events ≡ before ++ event ∷ behind
  pub broken : breaks rule l (has_behind l had before) event ≡ true
