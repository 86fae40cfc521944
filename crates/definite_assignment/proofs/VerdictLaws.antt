-- A rule is broken on a local if and only if the local's effect breaks it.
use Rattle.std.proofs.Common.{◌≡◌, ℕ, ◌+◌, ◌-◌, ◌*◌, ◌<◌, Bool, true, false, not, ◌&&◌, ◌||◌, ltb, length, ◌↔◌, IsTrue, refl, sym, ◌∙◌, subst, inl, inr, arith, lt-ltb, ltb-true}
use Rattle.std.proofs.lemmas.Bool.{and_parts, and_from, or_cases, or_left, or_right, not-true, not_from_false, cases_lt}
use Rattle.typing_rules.specs.Events.{Rule, Unassigned, Undropped}
use Rattle.typing_rules.specs.Pieces.{drops}
use Rattle.typing_rules.specs.LocalRules.{BodyFacts, body_flow, starts_with, IsBrokenAt}
use Rattle.definite_assignment.specs.declared.effects.Effects.{Effects}
use Rattle.definite_assignment.specs.LocalEffects.{effect_of}
use Rattle.definite_assignment.specs.Views.{outcome_of, view, wrong}
use Rattle.definite_assignment.proofs.EffectsFit.{fits}

pub breaks_from : (body : BodyFacts) (l : ℕ) (rule : Rule) (b : Bool) → b ≡ (effect_of l (body_flow body)).broken rule (starts_with body l) → ltb l (length body.types) ≡ true → b ≡ true → IsBrokenAt rule body l
breaks_from body l rule b e known h =
    let one = (fits l (body_flow body)).breaks.at rule (starts_with body l) (sym e ∙ h) in
    record { is_local = ltb-true l (length body.types) known; events = one.events; exit = one.exit; path = one.path; broken = one.broken }

pub breaks_to : (body : BodyFacts) (l : ℕ) (rule : Rule) (b : Bool) → b ≡ (effect_of l (body_flow body)).broken rule (starts_with body l) → IsBrokenAt rule body l → b ≡ true
breaks_to body l rule b e w = e ∙ (fits l (body_flow body)).breaks.from rule (starts_with body l) w.events w.exit w.path w.broken

pub used_wrong : (body : BodyFacts) (l : ℕ) (b : Bool) → b ≡ (effect_of l (body_flow body)).broken Unassigned (starts_with body l) → ((ltb l (length body.types) && b) ≡ true) ↔ IsBrokenAt Unassigned body l
used_wrong body l b e = (
  λ h. let p = and_parts (ltb l (length body.types)) b h in breaks_from body l Unassigned b e p.0 p.1,
  λ w. and_from (ltb l (length body.types)) b (lt-ltb l (length body.types) w.is_local) (breaks_to body l Unassigned b e w),
)

pub left_wrong : (body : BodyFacts) (l : ℕ) (b : Bool) → b ≡ (effect_of l (body_flow body)).broken Undropped (starts_with body l) → (((ltb l (length body.types) && not (drops body.types l)) && b) ≡ true) ↔ ((drops body.types l ≡ false) × IsBrokenAt Undropped body l)
left_wrong body l b e = (
  λ h.
      let p = and_parts (ltb l (length body.types) && not (drops body.types l)) b h in
      let q = and_parts (ltb l (length body.types)) (not (drops body.types l)) p.0 in
      (not-true (drops body.types l) q.1, breaks_from body l Undropped b e q.0 p.1),
  λ w. and_from (ltb l (length body.types) && not (drops body.types l)) b
      (and_from (ltb l (length body.types)) (not (drops body.types l)) (lt-ltb l (length body.types) w.1.is_local) (not_from_false (drops body.types l) w.0))
      (breaks_to body l Undropped b e w.1),
)

or_nothing : (x y : Bool) → (x || (y && false)) ≡ x
or_nothing true y = refl
or_nothing false true = refl
or_nothing false false = refl

and_true : (x : Bool) → (x && true) ≡ x
and_true true = refl
and_true false = refl

-- the property at the start, where p is whether the local is a parameter
pub at_start_is : (e : Effects) (i : ℕ) (rule : Rule) (p : Bool) → ((p && wrong (outcome_of e true) rule i) || (wrong (outcome_of e false) rule i && not p)) ≡ (view e i).broken rule p
at_start_is e i rule true = or_nothing (wrong (outcome_of e true) rule i) (wrong (outcome_of e false) rule i)
at_start_is e i rule false = and_true (wrong (outcome_of e false) rule i)

-- a property of a local below so many groups of 64, or of one in the next group
pub groups_more : (P : ℕ → Type 0) (a b r : Bool) (g : ℕ) → r ≡ (a || b) → (IsTrue a ↔ ((i : ℕ) × (i < g * 64) × P i)) → (IsTrue b ↔ ((i : ℕ) × (i < 64) × P (g * 64 + i))) → IsTrue r ↔ ((i : ℕ) × (i < (g + 1) * 64) × P i)
groups_more P a b r g e before own = (
  λ h. elim (or_cases a b (sym e ∙ h)) [
    | inl x ↦ let w = before.0 x in let low = w.1 in (w.0, omega arith, w.2)
    | inr y ↦ let w = own.0 y in let low = w.1 in (g * 64 + w.0, omega arith, w.2)
  ],
  λ w.
      let low = w.1 in
      elim (cases_lt w.0 (g * 64)) [
        | inl x ↦ e ∙ or_left a b (before.1 (w.0, x, w.2))
        | inr y ↦
            let same : w.0 ≡ g * 64 + (w.0 - g * 64) = omega arith in
            e ∙ or_right a b (own.1 (w.0 - g * 64, omega arith, subst P same w.2))
      ],
)
