-- The nodes that paths reach in code that is entered in some states of a local.
use Rattle.std.proofs.Common.{◌≡◌, ℕ, Bool, true, List, [], ◌++◌, ◌⊎◌, inl, inr, refl, sym, ap, subst, ◌∙◌}
use Rattle.typing_rules.specs.Events.{Event, has_behind}
use Rattle.typing_rules.specs.Flows.{Way, Onward, Flow, Happens, Jump, Aborts, Then, Either, Turns, Scope, At, quiet}
use Rattle.typing_rules.specs.Paths.{Exit, Leaves, Stopped, After, LeavesFirst, GoesOn, IsOver, to_out, Goes}
use Rattle.definite_assignment.specs.LocalEffects.{effect_of, reached}
use Rattle.definite_assignment.proofs.Fitting.{behind_append, behind_split, some_from, some_at}
use Rattle.definite_assignment.proofs.EffectsFit.{fits}
use Rattle.definite_assignment.proofs.Turning.{times_reach, turned}
use Rattle.definite_assignment.specs.Entries.{behind, at_turns}

-- a path from a state reaches the node n in another one
pub record Reaches (l : ℕ) (f : Flow) (had : Bool) (n : ℕ) (state : Bool) : Type 0 where
  pub events : List Event
  pub path : Goes f events (Stopped n)
  pub has_is : has_behind l had events ≡ state

-- from one of these states
pub record From (l : ℕ) (begun : Bool → Bool) (f : Flow) (n : ℕ) (state : Bool) : Type 0 where
  pub had : Bool
  pub is_begun : begun had ≡ true
  pub reaches : Reaches l f had n state

-- a path from one of these states goes on, in this state
pub record Leads (l : ℕ) (begun : Bool → Bool) (f : Flow) (state : Bool) : Type 0 where
  pub had : Bool
  pub is_begun : begun had ≡ true
  pub events : List Event
  pub path : Goes f events (Leaves Onward)
  pub has_is : has_behind l had events ≡ state

-- these are the states after the code
pub record AreBehind (l : ℕ) (begun : Bool → Bool) (f : Flow) (states : Bool → Bool) : Type 0 where
  pub to : (state : Bool) → states state ≡ true → Leads l begun f state
  pub from : (state : Bool) → Leads l begun f state → states state ≡ true

pub behind_is : (l : ℕ) (begun : Bool → Bool) (f : Flow) → AreBehind l begun f (behind l f begun)
behind_is l begun f = record {
  to = λ state h.
      let some = some_at begun (λ had. (effect_of l f).ends had Onward state) h in
      let one = (fits l f).ends.at some.state Onward state some.held in
      record { had = some.state; is_begun = some.may_be; events = one.events; path = one.path; has_is = one.has_is };
  from = λ state w.
      let there : (effect_of l f).ends w.had Onward state ≡ true = subst (λ s. (effect_of l f).ends w.had Onward s ≡ true) w.has_is ((fits l f).ends.from w.had Onward w.events w.path) in
      some_from begun (λ had. (effect_of l f).ends had Onward state) w.had w.is_begun there;
}

pub quiet_behind : (l : ℕ) (begun : Bool → Bool) → AreBehind l begun quiet begun
quiet_behind l begun = record {
  to = λ state h. record { had = state; is_begun = h; events = []; path = (refl, refl); has_is = refl };
  from = λ state w.
      let same : w.had ≡ state = subst (λ es. has_behind l w.had es ≡ state) w.path.0 w.has_is in
      subst (λ s. begun s ≡ true) same w.is_begun;
}

-- ---- one piece of code after another

pub then_behind : (l : ℕ) (begun middle last : Bool → Bool) (f g : Flow) → AreBehind l begun f middle → AreBehind l middle g last → AreBehind l begun (Then f g) last
then_behind l begun middle last f g p q = record {
  to = λ state h.
      let two = q.to state h in
      let one = p.to two.had two.is_begun in
      record {
        had = one.had;
        is_begun = one.is_begun;
        events = one.events ++ two.events;
        path = GoesOn (record { first = one.events; rest = two.events; split = refl; begins = one.path; goes_on = two.path });
        has_is = behind_append l one.had one.events two.events ∙ ap (λ s. has_behind l s two.events) one.has_is ∙ two.has_is;
      };
  from = λ state w.
      elim w.path [
        | LeavesFirst one away ↦ absurd away
        | GoesOn j ↦
            let between = has_behind l w.had j.first in
            let m = p.from between (record { had = w.had; is_begun = w.is_begun; events = j.first; path = j.begins; has_is = refl }) in
            q.from state (record { had = between; is_begun = m; events = j.rest; path = j.goes_on; has_is = sym (behind_split l w.had w.events j.first j.rest j.split) ∙ w.has_is })
        | IsOver one ends_here ↦ absurd (cc)
      ];
}

pub then_to : (l : ℕ) (begun middle : Bool → Bool) (f g : Flow) → AreBehind l begun f middle → (n : ℕ) (state : Bool) → From l begun (Then f g) n state → From l begun f n state ⊎ From l middle g n state
then_to l begun middle f g p n state w =
    elim w.reaches.path [
      | LeavesFirst one away ↦ inl (record { had = w.had; is_begun = w.is_begun; reaches = record { events = w.reaches.events; path = one; has_is = w.reaches.has_is } })
      | GoesOn j ↦
          let between = has_behind l w.had j.first in
          let m = p.from between (record { had = w.had; is_begun = w.is_begun; events = j.first; path = j.begins; has_is = refl }) in
          inr (record { had = between; is_begun = m; reaches = record { events = j.rest; path = j.goes_on; has_is = sym (behind_split l w.had w.reaches.events j.first j.rest j.split) ∙ w.reaches.has_is } })
      | IsOver one ends_here ↦ absurd (cc)
    ]

pub then_first : (l : ℕ) (begun : Bool → Bool) (f g : Flow) (n : ℕ) (state : Bool) → From l begun f n state → From l begun (Then f g) n state
then_first l begun f g n state w = record {
  had = w.had;
  is_begun = w.is_begun;
  reaches = record { events = w.reaches.events; path = LeavesFirst w.reaches.path tt; has_is = w.reaches.has_is };
}

pub then_second : (l : ℕ) (begun middle : Bool → Bool) (f g : Flow) → AreBehind l begun f middle → (n : ℕ) (state : Bool) → From l middle g n state → From l begun (Then f g) n state
then_second l begun middle f g p n state w =
    let one = p.to w.had w.is_begun in
    record {
      had = one.had;
      is_begun = one.is_begun;
      reaches = record {
        events = one.events ++ w.reaches.events;
        path = GoesOn (record { first = one.events; rest = w.reaches.events; split = refl; begins = one.path; goes_on = w.reaches.path });
        has_is = behind_append l one.had one.events w.reaches.events ∙ ap (λ s. has_behind l s w.reaches.events) one.has_is ∙ w.reaches.has_is;
      };
    }

-- ---- code that reaches no node

pub from_happens : (l : ℕ) (begun : Bool → Bool) (es : List Event) (n : ℕ) (state : Bool) → From l begun (Happens es) n state → ⊥
from_happens l begun es n state w = let e = w.reaches.path.1 in absurd (cc)

pub from_jump : (l : ℕ) (begun : Bool → Bool) (way : Way) (n : ℕ) (state : Bool) → From l begun (Jump way) n state → ⊥
from_jump l begun way n state w = let e = w.reaches.path.1 in absurd (cc)

pub from_aborts : (l : ℕ) (begun : Bool → Bool) (n : ℕ) (state : Bool) → From l begun Aborts n state → ⊥
from_aborts l begun n state w = let e = w.reaches.path.1 in absurd (cc)

-- ---- branches

pub either_to : (l : ℕ) (begun : Bool → Bool) (f g : Flow) (n : ℕ) (state : Bool) → From l begun (Either f g) n state → From l begun f n state ⊎ From l begun g n state
either_to l begun f g n state w =
    elim w.reaches.path [
      | inl one ↦ inl (record { had = w.had; is_begun = w.is_begun; reaches = record { events = w.reaches.events; path = one; has_is = w.reaches.has_is } })
      | inr one ↦ inr (record { had = w.had; is_begun = w.is_begun; reaches = record { events = w.reaches.events; path = one; has_is = w.reaches.has_is } })
    ]

pub either_first : (l : ℕ) (begun : Bool → Bool) (f g : Flow) (n : ℕ) (state : Bool) → From l begun f n state → From l begun (Either f g) n state
either_first l begun f g n state w = record { had = w.had; is_begun = w.is_begun; reaches = record { events = w.reaches.events; path = inl w.reaches.path; has_is = w.reaches.has_is } }

pub either_second : (l : ℕ) (begun : Bool → Bool) (f g : Flow) (n : ℕ) (state : Bool) → From l begun g n state → From l begun (Either f g) n state
either_second l begun f g n state w = record { had = w.had; is_begun = w.is_begun; reaches = record { events = w.reaches.events; path = inr w.reaches.path; has_is = w.reaches.has_is } }

-- ---- scopes and nodes

pub scope_to : (l : ℕ) (begun : Bool → Bool) (ls : List ℕ) (f : Flow) (n : ℕ) (state : Bool) → From l begun (Scope ls f) n state → From l begun f n state
scope_to l begun ls f n state w = record { had = w.had; is_begun = w.is_begun; reaches = record { events = w.reaches.events; path = w.reaches.path; has_is = w.reaches.has_is } }

pub scope_from : (l : ℕ) (begun : Bool → Bool) (ls : List ℕ) (f : Flow) (n : ℕ) (state : Bool) → From l begun f n state → From l begun (Scope ls f) n state
scope_from l begun ls f n state w = record { had = w.had; is_begun = w.is_begun; reaches = record { events = w.reaches.events; path = w.reaches.path; has_is = w.reaches.has_is } }

pub record IsHere (begun : Bool → Bool) (m n : ℕ) (state : Bool) : Type 0 where
  pub index : m ≡ n
  pub is_begun : begun state ≡ true

stopped_same : (m n : ℕ) → Stopped m ≡ Stopped n → m ≡ n
stopped_same m n h = cc

pub at_to : (l : ℕ) (begun : Bool → Bool) (m : ℕ) (f : Flow) (n : ℕ) (state : Bool) → From l begun (At m f) n state → IsHere begun m n state ⊎ From l begun f n state
at_to l begun m f n state w =
    elim w.reaches.path [
      | inl here ↦
          let same : w.had ≡ state = subst (λ es. has_behind l w.had es ≡ state) here.0 w.reaches.has_is in
          inl (record { index = sym (stopped_same n m here.1); is_begun = subst (λ s. begun s ≡ true) same w.is_begun })
      | inr one ↦ inr (record { had = w.had; is_begun = w.is_begun; reaches = record { events = w.reaches.events; path = one; has_is = w.reaches.has_is } })
    ]

pub at_here : (l : ℕ) (begun : Bool → Bool) (m : ℕ) (f : Flow) (n : ℕ) (state : Bool) → IsHere begun m n state → From l begun (At m f) n state
at_here l begun m f n state h = record {
  had = state;
  is_begun = h.is_begun;
  reaches = record { events = []; path = inl (refl, ap Stopped (sym h.index)); has_is = refl };
}

pub at_inside : (l : ℕ) (begun : Bool → Bool) (m : ℕ) (f : Flow) (n : ℕ) (state : Bool) → From l begun f n state → From l begun (At m f) n state
at_inside l begun m f n state w = record { had = w.had; is_begun = w.is_begun; reaches = record { events = w.reaches.events; path = inr w.reaches.path; has_is = w.reaches.has_is } }

-- ---- loops

module _ (l : ℕ) (f g : Flow) (begun : Bool → Bool) (n : ℕ) (state : Bool) where
  abbrev P : List Event → Exit → Type 0
  P = Goes f

  abbrev Q : List Event → Exit → Type 0
  Q = Goes g

  turn_state : (had now : Bool) → begun had ≡ true → reached (effect_of l f) (effect_of l g) had now ≡ true → at_turns l f g begun now ≡ true
  turn_state had now b r = some_from begun (λ s. reached (effect_of l f) (effect_of l g) s now) had b r

  pub turns_to : From l begun (Turns f g) n state → From l (at_turns l f g begun) f n state ⊎ From l (behind l f (at_turns l f g begun)) g n state
  turns_to w =
      let j = w.reaches.path.1 in
      let now = has_behind l w.had j.first in
      let r = times_reach l (effect_of l f) (effect_of l g) P Q (fits l f).ends (fits l f).breaks (fits l g).ends (fits l g).breaks w.reaches.path.0 w.had j.first (Leaves Onward) j.begins in
      let b = turn_state w.had now w.is_begun r in
      let last : has_behind l now j.rest ≡ state = sym (behind_split l w.had w.reaches.events j.first j.rest j.split) ∙ w.reaches.has_is in
      elim j.goes_on [
        | LeavesFirst one away ↦ inl (record { had = now; is_begun = b; reaches = record { events = j.rest; path = one; has_is = last } })
        | GoesOn k ↦
            let between = has_behind l now k.first in
            let m = (behind_is l (at_turns l f g begun) f).from between (record { had = now; is_begun = b; events = k.first; path = k.begins; has_is = refl }) in
            inr (record { had = between; is_begun = m; reaches = record { events = k.rest; path = k.goes_on; has_is = sym (behind_split l now j.rest k.first k.rest k.split) ∙ last } })
        | IsOver one ends_here ↦ absurd (cc)
      ]

  -- the last iteration begins in a state that iterations reach
  last_turn : (now : Bool) → at_turns l f g begun now ≡ true → (es : List Event) → After P (to_out Q) es (Stopped n) → has_behind l now es ≡ state → From l begun (Turns f g) n state
  last_turn now h es path has_is =
      let some = some_at begun (λ s. reached (effect_of l f) (effect_of l g) s now) h in
      let before = turned l (effect_of l f) (effect_of l g) P Q (fits l f).ends (fits l f).breaks (fits l g).ends (fits l g).breaks some.state now some.held in
      record {
        had = some.state;
        is_begun = some.may_be;
        reaches = record {
          events = before.events ++ es;
          path = (before.count, record { first = before.events; rest = es; split = refl; begins = before.path; goes_on = path });
          has_is = behind_append l some.state before.events es ∙ ap (λ s. has_behind l s es) before.has_is ∙ has_is;
        };
      }

  pub turns_first : From l (at_turns l f g begun) f n state → From l begun (Turns f g) n state
  turns_first w = last_turn w.had w.is_begun w.reaches.events (LeavesFirst w.reaches.path tt) w.reaches.has_is

  pub turns_second : From l (behind l f (at_turns l f g begun)) g n state → From l begun (Turns f g) n state
  turns_second w =
      let one = (behind_is l (at_turns l f g begun) f).to w.had w.is_begun in
      last_turn one.had one.is_begun (one.events ++ w.reaches.events)
      (GoesOn (record { first = one.events; rest = w.reaches.events; split = refl; begins = one.path; goes_on = w.reaches.path }))
      (behind_append l one.had one.events w.reaches.events ∙ ap (λ s. has_behind l s w.reaches.events) one.has_is ∙ w.reaches.has_is)
