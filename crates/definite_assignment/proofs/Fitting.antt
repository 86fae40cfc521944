-- The effect of code on a local is that of the paths through the code, both ways.
use Rattle.std.proofs.Common.{◌≡◌, ℕ, Bool, true, false, not, ◌&&◌, ◌||◌, List, [], ◌∷◌, ◌++◌, ◌⊎◌, inl, inr, refl, sym, ap, subst, ◌∙◌}
use Rattle.std.proofs.lemmas.Bool.{or_cases, or_left, or_right, and_parts, and_from, false≢true}
use Rattle.typing_rules.specs.Events.{Event, Rule, has_after, has_behind, breaks, is_broken}
use Rattle.typing_rules.specs.Flows.{Way, Onward, Broken, Continued, Returned}
use Rattle.typing_rules.specs.Paths.{Exit, Leaves, Over, Stopped, IsAway, After, LeavesFirst, GoesOn, IsOver}
use Rattle.definite_assignment.specs.LocalEffects.{LocalEffect, same, is_onward, at_some, then_of}

-- ---- what an effect means for paths

pub record EndsAt (P : List Event → Exit → Type 0) (l : ℕ) (had : Bool) (way : Way) (has : Bool) : Type 0 where
  pub events : List Event
  pub path : P events (Leaves way)
  pub has_is : has_behind l had events ≡ has

pub record BreaksAt (P : List Event → Exit → Type 0) (rule : Rule) (l : ℕ) (had : Bool) : Type 0 where
  pub events : List Event
  pub exit : Exit
  pub path : P events exit
  pub broken : is_broken rule l had events ≡ true

pub record Ends (l : ℕ) (e : LocalEffect) (P : List Event → Exit → Type 0) : Type 0 where
  pub at : (had : Bool) (way : Way) (has : Bool) → e.ends had way has ≡ true → EndsAt P l had way has
  pub from : (had : Bool) (way : Way) (es : List Event) → P es (Leaves way) → e.ends had way (has_behind l had es) ≡ true

pub record Breaks (l : ℕ) (e : LocalEffect) (P : List Event → Exit → Type 0) : Type 0 where
  pub at : (rule : Rule) (had : Bool) → e.broken rule had ≡ true → BreaksAt P rule l had
  pub from : (rule : Rule) (had : Bool) (es : List Event) (exit : Exit) → P es exit → is_broken rule l had es ≡ true → e.broken rule had ≡ true

-- ---- events one after another

pub behind_append : (l : ℕ) (had : Bool) (a b : List Event) → has_behind l had (a ++ b) ≡ has_behind l (has_behind l had a) b
behind_append l had [] b = refl
behind_append l had (x ∷ a) b = behind_append l (has_after l had x) a b

or_assoc : (x y z : Bool) → ((x || y) || z) ≡ (x || (y || z))
or_assoc true y z = refl
or_assoc false y z = refl

pub broken_append : (r : Rule) (l : ℕ) (had : Bool) (a b : List Event) → is_broken r l had (a ++ b) ≡ (is_broken r l had a || is_broken r l (has_behind l had a) b)
broken_append r l had [] b = refl
broken_append r l had (x ∷ a) b = ap (λ t. breaks r l had x || t) (broken_append r l (has_after l had x) a b) ∙ sym (or_assoc (breaks r l had x) (is_broken r l (has_after l had x) a) (is_broken r l (has_behind l (has_after l had x) a) b))

pub broken_left : (r : Rule) (l : ℕ) (had : Bool) (a b : List Event) → is_broken r l had a ≡ true → is_broken r l had (a ++ b) ≡ true
broken_left r l had a b h = broken_append r l had a b ∙ or_left (is_broken r l had a) (is_broken r l (has_behind l had a) b) h

pub broken_right : (r : Rule) (l : ℕ) (had state : Bool) (a b : List Event) → has_behind l had a ≡ state → is_broken r l state b ≡ true → is_broken r l had (a ++ b) ≡ true
broken_right r l had state a b s h =
    let g : is_broken r l (has_behind l had a) b ≡ true = subst (λ x. is_broken r l x b ≡ true) (sym s) h in
    broken_append r l had a b ∙ or_right (is_broken r l had a) (is_broken r l (has_behind l had a) b) g

pub broken_parts : (r : Rule) (l : ℕ) (had : Bool) (es a b : List Event) → es ≡ a ++ b → is_broken r l had es ≡ true → (is_broken r l had a ≡ true) ⊎ (is_broken r l (has_behind l had a) b ≡ true)
broken_parts r l had es a b s h =
    or_cases (is_broken r l had a) (is_broken r l (has_behind l had a) b) (sym (broken_append r l had a b) ∙ subst (λ xs. is_broken r l had xs ≡ true) s h)

pub behind_split : (l : ℕ) (had : Bool) (es a b : List Event) → es ≡ a ++ b → has_behind l had es ≡ has_behind l (has_behind l had a) b
behind_split l had es a b s = ap (has_behind l had) s ∙ behind_append l had a b

-- ---- truth values

pub same_refl : (b : Bool) → same b b ≡ true
same_refl true = refl
same_refl false = refl

pub same_true : (a b : Bool) → same a b ≡ true → a ≡ b
same_true true true h = refl
same_true true false h = absurd (false≢true h)
same_true false true h = absurd (false≢true h)
same_true false false h = refl

-- a property of a state in which the local may be
pub some_from : (may holds : Bool → Bool) (state : Bool) → may state ≡ true → holds state ≡ true → at_some may holds ≡ true
some_from may holds false m h = or_left (may false && holds false) (may true && holds true) (and_from (may false) (holds false) m h)
some_from may holds true m h = or_right (may false && holds false) (may true && holds true) (and_from (may true) (holds true) m h)

pub record SomeAt (may holds : Bool → Bool) : Type 0 where
  pub state : Bool
  pub may_be : may state ≡ true
  pub held : holds state ≡ true

pub some_at : (may holds : Bool → Bool) → at_some may holds ≡ true → SomeAt may holds
some_at may holds h =
    elim (or_cases (may false && holds false) (may true && holds true) h) [
      | inl a ↦ let p = and_parts (may false) (holds false) a in record { state = false; may_be = p.0; held = p.1 }
      | inr b ↦ let p = and_parts (may true) (holds true) b in record { state = true; may_be = p.0; held = p.1 }
    ]

pub onward_is : (way : Way) → is_onward way ≡ true → way ≡ Onward
onward_is Onward h = refl
onward_is Broken h = absurd (false≢true h)
onward_is Continued h = absurd (false≢true h)
onward_is Returned h = absurd (false≢true h)

away_from : (way : Way) → not (is_onward way) ≡ true → IsAway (Leaves way)
away_from Onward h = absurd (false≢true h)
away_from Broken h = tt
away_from Continued h = tt
away_from Returned h = tt

away_true : (way : Way) → IsAway (Leaves way) → not (is_onward way) ≡ true
away_true Onward h = absurd h
away_true Broken h = refl
away_true Continued h = refl
away_true Returned h = refl

exit_case : (P : Exit → Type 0) (exit : Exit) → (IsAway exit → P exit) → P (Leaves Onward) → P exit
exit_case P (Leaves Onward) away on = on
exit_case P (Leaves Broken) away on = away tt
exit_case P (Leaves Continued) away on = away tt
exit_case P (Leaves Returned) away on = away tt
exit_case P Over away on = away tt
exit_case P (Stopped n) away on = away tt

-- ---- one piece of code after another

module _ (l : ℕ) (e f : LocalEffect) (P Q : List Event → Exit → Type 0) where
  pub ends_then : Ends l e P → Ends l f Q → Ends l (then_of e f) (After P Q)
  ends_then p q = record {
    at = λ had way has h.
        elim (or_cases (not (is_onward way) && e.ends had way has) (at_some (e.ends had Onward) (λ state. f.ends state way has)) h) [
          | inl a ↦
              let parts = and_parts (not (is_onward way)) (e.ends had way has) a in
              let one = p.at had way has parts.1 in
              record { events = one.events; path = LeavesFirst one.path (away_from way parts.0); has_is = one.has_is }
          | inr b ↦
              let some = some_at (e.ends had Onward) (λ state. f.ends state way has) b in
              let one = p.at had Onward some.state some.may_be in
              let two = q.at some.state way has some.held in
              record {
                events = one.events ++ two.events;
                path = GoesOn (record { first = one.events; rest = two.events; split = refl; begins = one.path; goes_on = two.path });
                has_is = behind_append l had one.events two.events ∙ ap (λ s. has_behind l s two.events) one.has_is ∙ two.has_is;
              }
        ];
    from = λ had way es path.
        let A = not (is_onward way) && e.ends had way (has_behind l had es) in
        let B = at_some (e.ends had Onward) (λ state. f.ends state way (has_behind l had es)) in
        elim path [
          | LeavesFirst one away ↦ or_left A B (and_from (not (is_onward way)) (e.ends had way (has_behind l had es)) (away_true way away) (p.from had way es one))
          | GoesOn j ↦
              let state = has_behind l had j.first in
              let last : f.ends state way (has_behind l had es) ≡ true =
              subst (λ s. f.ends state way s ≡ true) (sym (behind_split l had es j.first j.rest j.split)) (q.from state way j.rest j.goes_on) in
              or_right A B (some_from (e.ends had Onward) (λ s. f.ends s way (has_behind l had es)) state (p.from had Onward j.first j.begins) last)
          | IsOver one ends_here ↦ absurd (cc)
        ];
  }

  pub breaks_then : Ends l e P → Breaks l e P → Breaks l f Q → Breaks l (then_of e f) (After P Q)
  breaks_then ends p q = record {
    at = λ rule had h.
        elim (or_cases (e.broken rule had) (at_some (e.ends had Onward) (f.broken rule)) h) [
          | inl a ↦
              let one = p.at rule had a in
              let G : Exit → Type 0 = λ exit. P one.events exit → BreaksAt (After P Q) rule l had in
              exit_case G one.exit
              (λ away path. record { events = one.events; exit = one.exit; path = LeavesFirst path away; broken = one.broken })
              (λ path. record { events = one.events; exit = Over; path = IsOver path refl; broken = one.broken })
              one.path
          | inr b ↦
              let some = some_at (e.ends had Onward) (f.broken rule) b in
              let one = ends.at had Onward some.state some.may_be in
              let two = q.at rule some.state some.held in
              record {
                events = one.events ++ two.events;
                exit = two.exit;
                path = GoesOn (record { first = one.events; rest = two.events; split = refl; begins = one.path; goes_on = two.path });
                broken = broken_right rule l had some.state one.events two.events one.has_is two.broken;
              }
        ];
    from = λ rule had es exit path h.
        let A = e.broken rule had in
        let B = at_some (e.ends had Onward) (f.broken rule) in
        elim path [
          | LeavesFirst one away ↦ or_left A B (p.from rule had es exit one h)
          | GoesOn j ↦
              elim (broken_parts rule l had es j.first j.rest j.split h) [
                | inl here ↦ or_left A B (p.from rule had j.first (Leaves Onward) j.begins here)
                | inr there ↦
                    let state = has_behind l had j.first in
                    or_right A B (some_from (e.ends had Onward) (f.broken rule) state (ends.from had Onward j.first j.begins) (q.from rule state j.rest exit j.goes_on there))
              ]
          | IsOver one ends_here ↦ or_left A B (p.from rule had es (Leaves Onward) one h)
        ];
  }
