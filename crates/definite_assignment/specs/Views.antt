-- What sets mean for one local.
use Rattle.std.specs.Prelude.{ℕ, Bool, true, false}
use Rattle.typing_rules.specs.Events.{Rule, Unassigned, Undropped}
use Rattle.typing_rules.specs.Flows.{Way, Onward, Broken, Continued, Returned}
use Rattle.definite_assignment.specs.declared.sets.LocalSet.{LocalSet}
use Rattle.definite_assignment.specs.declared.outcome.Ends.{Ends}
use Rattle.definite_assignment.specs.declared.outcome.Outcome.{Outcome}
use Rattle.definite_assignment.specs.declared.effects.Effects.{Effects}
use Rattle.definite_assignment.specs.LocalEffects.{LocalEffect}
use Rattle.definite_assignment.specs.Sets.{has}

abbrev pub end_of : Ends → Bool → LocalSet
end_of ends false = ends.lacking
end_of ends true = ends.having

abbrev pub ends_of : Outcome → Way → Ends
ends_of outcome Onward = outcome.onward
ends_of outcome Broken = outcome.broken
ends_of outcome Continued = outcome.continued
ends_of outcome Returned = outcome.returned

abbrev pub rule_of : Outcome → Rule → LocalSet
rule_of outcome Unassigned = outcome.unassigned
rule_of outcome Undropped = outcome.undropped

-- whether the local may be in this state
abbrev pub is_in : Ends → Bool → ℕ → Bool
is_in ends state i = has (end_of ends state) i

-- whether a path may exit in this way with the local in this state
abbrev pub may : Outcome → Way → Bool → ℕ → Bool
may outcome way state i = is_in (ends_of outcome way) state i

abbrev pub wrong : Outcome → Rule → ℕ → Bool
wrong outcome rule i = has (rule_of outcome rule) i

abbrev pub outcome_of : Effects → Bool → Outcome
outcome_of effects false = effects.lacking
outcome_of effects true = effects.having

-- the effect on the local with this position
abbrev pub view : Effects → ℕ → LocalEffect
view effects i = record {
  ends = λ had way state. may (outcome_of effects had) way state i;
  broken = λ rule had. wrong (outcome_of effects had) rule i;
}
