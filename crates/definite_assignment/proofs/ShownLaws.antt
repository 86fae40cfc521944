-- The meaning of effects of composed code.
use Rattle.std.proofs.Common.{◌≡◌, ℕ, ◌+◌, ◌<◌, Bool, List, ap, ◌∙◌}
use Rattle.typing_rules.specs.Events.{Rule}
use Rattle.typing_rules.specs.Flows.{Way, Flow, Jump, Aborts, Then, Either, Turns, Scope}
use Rattle.definite_assignment.specs.declared.sets.LocalSet.{LocalSet}
use Rattle.definite_assignment.specs.declared.effects.Effects.{Effects}
use Rattle.definite_assignment.specs.LocalEffects.{LocalEffect, is_among, jump_of, over, then_of, either_of, turns_of, scope_of, effect_of}
use Rattle.definite_assignment.specs.Sets.{has}
use Rattle.definite_assignment.specs.Views.{may, outcome_of, view, wrong}
use Rattle.definite_assignment.specs.Shown.{Shows, Means}
use Rattle.definite_assignment.proofs.StateLaws.{effect_same}

-- the effects at each local are those of this function
abbrev pub EndsAre : Effects → (ℕ → LocalEffect) → Type 0
EndsAre r e = (i : ℕ) (had : Bool) (way : Way) (state : Bool) → i < 64 → may (outcome_of r had) way state i ≡ (e i).ends had way state

abbrev pub BrokenAre : Effects → (ℕ → LocalEffect) → Type 0
BrokenAre r e = (i : ℕ) (had : Bool) (rule : Rule) → i < 64 → wrong (outcome_of r had) rule i ≡ (e i).broken rule had

pub whole : (r : Effects) (e : ℕ → LocalEffect) → EndsAre r e → BrokenAre r e → (i : ℕ) → i < 64 → view r i ≡ e i
whole r e ends broken i h = effect_same (view r i) (e i) (λ had way state. ends i had way state h) (λ had rule. broken i had rule h)

pub jump_shown : (base : ℕ) (r : Effects) (way : Way) → EndsAre r (λ i. jump_of way) → BrokenAre r (λ i. jump_of way) → Shows base r (Jump way)
jump_shown base r way ends broken = record { shown = whole r (λ i. jump_of way) ends broken }

pub over_shown : (base : ℕ) (r : Effects) → EndsAre r (λ i. over) → BrokenAre r (λ i. over) → Shows base r Aborts
over_shown base r ends broken = record { shown = whole r (λ i. over) ends broken }

pub then_shown : (base : ℕ) (r a b : Effects) (f g : Flow) → EndsAre r (λ i. then_of (view a i) (view b i)) → BrokenAre r (λ i. then_of (view a i) (view b i)) → Shows base a f → Shows base b g → Shows base r (Then f g)
then_shown base r a b f g ends broken p q = record {
  shown = λ i h. whole r (λ i. then_of (view a i) (view b i)) ends broken i h ∙ ap (λ e. then_of e (view b i)) (p.shown i h) ∙ ap (λ e. then_of (effect_of (base + i) f) e) (q.shown i h);
}

pub either_shown : (base : ℕ) (r a b : Effects) (f g : Flow) → EndsAre r (λ i. either_of (view a i) (view b i)) → BrokenAre r (λ i. either_of (view a i) (view b i)) → Shows base a f → Shows base b g → Shows base r (Either f g)
either_shown base r a b f g ends broken p q = record {
  shown = λ i h. whole r (λ i. either_of (view a i) (view b i)) ends broken i h ∙ ap (λ e. either_of e (view b i)) (p.shown i h) ∙ ap (λ e. either_of (effect_of (base + i) f) e) (q.shown i h);
}

pub turns_shown : (base : ℕ) (r a b : Effects) (f g : Flow) → EndsAre r (λ i. turns_of (view a i) (view b i)) → BrokenAre r (λ i. turns_of (view a i) (view b i)) → Shows base a f → Shows base b g → Shows base r (Turns f g)
turns_shown base r a b f g ends broken p q = record {
  shown = λ i h. whole r (λ i. turns_of (view a i) (view b i)) ends broken i h ∙ ap (λ e. turns_of e (view b i)) (p.shown i h) ∙ ap (λ e. turns_of (effect_of (base + i) f) e) (q.shown i h);
}

pub scope_shown : (base : ℕ) (r a : Effects) (s : LocalSet) (ls : List ℕ) (f : Flow) → EndsAre r (λ i. scope_of (has s i) (view a i)) → BrokenAre r (λ i. scope_of (has s i) (view a i)) → Means base s ls → Shows base a f → Shows base r (Scope ls f)
scope_shown base r a s ls f ends broken m p = record {
  shown = λ i h. whole r (λ i. scope_of (has s i) (view a i)) ends broken i h ∙ ap (λ b. scope_of b (view a i)) (m.meant i h) ∙ ap (λ e. scope_of (is_among (base + i) ls) e) (p.shown i h);
}
