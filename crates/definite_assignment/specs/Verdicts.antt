-- Which rules a body breaks on a local.
use Rattle.std.specs.Prelude.{◌≡◌, ℕ, false}
use Rattle.typing_rules.specs.Events.{Rule, Unassigned, Undropped}
use Rattle.typing_rules.specs.Pieces.{drops}
use Rattle.typing_rules.specs.LocalRules.{BodyFacts, IsBrokenAt}

-- leaving a value behind is wrong only if its type has no drop
abbrev pub IsWrong : Rule → BodyFacts → ℕ → Type 0
IsWrong Unassigned body l = IsBrokenAt Unassigned body l
IsWrong Undropped body l = (drops body.types l ≡ false) × IsBrokenAt Undropped body l
