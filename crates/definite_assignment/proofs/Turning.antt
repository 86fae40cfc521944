-- The effect of a loop is that of all its iterations: since a local has a value or none, one iteration reaches every
-- state that any number of iterations reach.
use Rattle.std.proofs.Common.{◌≡◌, ℕ, zero, suc, Bool, true, false, List, [], ◌++◌, ◌⊎◌, inl, inr, refl, sym, ap, subst, ◌∙◌, append-nil}
use Rattle.std.proofs.lemmas.Bool.{or_cases, or_left, or_right, false≢true}
use Rattle.typing_rules.specs.Events.{Event, Rule, has_behind, is_broken}
use Rattle.typing_rules.specs.Flows.{Way, Onward, Broken, Continued, Returned}
use Rattle.typing_rules.specs.Paths.{Exit, Leaves, Over, Stopped, After, LeavesFirst, GoesOn, IsOver, to_next, to_out, times, turns}
use Rattle.definite_assignment.specs.LocalEffects.{LocalEffect, same, then_of, to_next_of, to_out_of, reached, turns_of}
use Rattle.definite_assignment.proofs.Fitting.{EndsAt, BreaksAt, Ends, Breaks, behind_append, behind_split, broken_right, broken_parts, same_refl, same_true, some_from, SomeAt, some_at, ends_then, breaks_then}

two_states : (a b c : Bool) → (a ≡ b) ⊎ ((b ≡ c) ⊎ (a ≡ c))
two_states true true c = inl refl
two_states false false c = inl refl
two_states true false true = inr (inr refl)
two_states true false false = inr (inl refl)
two_states false true true = inr (inl refl)
two_states false true false = inr (inr refl)

module _ (l : ℕ) (f : LocalEffect) (Q : List Event → Exit → Type 0) (ends : Ends l f Q) where
  next_from : (had : Bool) (way : Way) (es : List Event) → to_next Q es (Leaves way) → (to_next_of f).ends had way (has_behind l had es) ≡ true
  next_from had Onward es path =
      elim path [
        | inl one ↦ or_left (f.ends had Onward (has_behind l had es)) (f.ends had Continued (has_behind l had es)) (ends.from had Onward es one)
        | inr one ↦ or_right (f.ends had Onward (has_behind l had es)) (f.ends had Continued (has_behind l had es)) (ends.from had Continued es one)
      ]
  next_from had Broken es path = absurd path
  next_from had Continued es path = absurd path
  next_from had Returned es path = absurd path

  next_at : (had : Bool) (way : Way) (has : Bool) → (to_next_of f).ends had way has ≡ true → EndsAt (to_next Q) l had way has
  next_at had Onward has h =
      elim (or_cases (f.ends had Onward has) (f.ends had Continued has) h) [
        | inl a ↦ let one = ends.at had Onward has a in record { events = one.events; path = inl one.path; has_is = one.has_is }
        | inr b ↦ let one = ends.at had Continued has b in record { events = one.events; path = inr one.path; has_is = one.has_is }
      ]
  next_at had Broken has h = absurd (false≢true h)
  next_at had Continued has h = absurd (false≢true h)
  next_at had Returned has h = absurd (false≢true h)

  ends_next : Ends l (to_next_of f) (to_next Q)
  ends_next = record { at = next_at; from = next_from }

  out_from : (had : Bool) (way : Way) (es : List Event) → to_out Q es (Leaves way) → (to_out_of f).ends had way (has_behind l had es) ≡ true
  out_from had Onward es path = ends.from had Broken es path
  out_from had Broken es path = absurd path
  out_from had Continued es path = absurd path
  out_from had Returned es path = ends.from had Returned es path

  out_at : (had : Bool) (way : Way) (has : Bool) → (to_out_of f).ends had way has ≡ true → EndsAt (to_out Q) l had way has
  out_at had Onward has h = let one = ends.at had Broken has h in record { events = one.events; path = one.path; has_is = one.has_is }
  out_at had Broken has h = absurd (false≢true h)
  out_at had Continued has h = absurd (false≢true h)
  out_at had Returned has h = let one = ends.at had Returned has h in record { events = one.events; path = one.path; has_is = one.has_is }

  ends_out : Ends l (to_out_of f) (to_out Q)
  ends_out = record { at = out_at; from = out_from }

module _ (l : ℕ) (f : LocalEffect) (Q : List Event → Exit → Type 0) (breaks : Breaks l f Q) where
  broken_out : (rule : Rule) (had : Bool) (es : List Event) (exit : Exit) → Q es exit → is_broken rule l had es ≡ true → BreaksAt (to_out Q) rule l had
  broken_out rule had es (Leaves Onward) path h = record { events = es; exit = Over; path = inr (inl path); broken = h }
  broken_out rule had es (Leaves Broken) path h = record { events = es; exit = Leaves Onward; path = path; broken = h }
  broken_out rule had es (Leaves Continued) path h = record { events = es; exit = Over; path = inr (inr path); broken = h }
  broken_out rule had es (Leaves Returned) path h = record { events = es; exit = Leaves Returned; path = path; broken = h }
  broken_out rule had es Over path h = record { events = es; exit = Over; path = inl path; broken = h }
  broken_out rule had es (Stopped n) path h = record { events = es; exit = Stopped n; path = path; broken = h }

  out_broken : (rule : Rule) (had : Bool) (es : List Event) (exit : Exit) → to_out Q es exit → is_broken rule l had es ≡ true → f.broken rule had ≡ true
  out_broken rule had es (Leaves Onward) path h = breaks.from rule had es (Leaves Broken) path h
  out_broken rule had es (Leaves Broken) path h = absurd path
  out_broken rule had es (Leaves Continued) path h = absurd path
  out_broken rule had es (Leaves Returned) path h = breaks.from rule had es (Leaves Returned) path h
  out_broken rule had es Over path h =
      elim path [
        | inl one ↦ breaks.from rule had es Over one h
        | inr two ↦ elim two [
          | inl one ↦ breaks.from rule had es (Leaves Onward) one h
          | inr one ↦ breaks.from rule had es (Leaves Continued) one h
        ]
      ]
  out_broken rule had es (Stopped n) path h = breaks.from rule had es (Stopped n) path h

  breaks_out : Breaks l (to_out_of f) (to_out Q)
  breaks_out = record {
    at = λ rule had h. let one = breaks.at rule had h in broken_out rule had one.events one.exit one.path one.broken;
    from = out_broken;
  }

-- a path that goes on to the next iteration may be followed no further
next_over : (Q : List Event → Exit → Type 0) (es : List Event) (exit : Exit) → to_next Q es exit → to_out Q es Over
next_over Q es (Leaves Onward) path = inr path
next_over Q es (Leaves Broken) path = absurd path
next_over Q es (Leaves Continued) path = absurd path
next_over Q es (Leaves Returned) path = absurd path
next_over Q es Over path = absurd path
next_over Q es (Stopped n) path = absurd path

module _ (l : ℕ) (e f : LocalEffect) (P Q : List Event → Exit → Type 0) (pe : Ends l e P) (pb : Breaks l e P) (qe : Ends l f Q) (qb : Breaks l f Q) where
  pub turn_ends : Ends l (then_of e (to_next_of f)) (After P (to_next Q))
  turn_ends = ends_then l e (to_next_of f) P (to_next Q) pe (ends_next l f Q qe)

  pub last_ends : Ends l (then_of e (to_out_of f)) (After P (to_out Q))
  last_ends = ends_then l e (to_out_of f) P (to_out Q) pe (ends_out l f Q qe)

  last_breaks : Breaks l (then_of e (to_out_of f)) (After P (to_out Q))
  last_breaks = breaks_then l e (to_out_of f) P (to_out Q) pe pb (breaks_out l f Q qb)

  turn_in_last : (es : List Event) (exit : Exit) → After P (to_next Q) es exit → (end : Exit) × After P (to_out Q) es end
  turn_in_last es exit path =
      elim path [
        | LeavesFirst one away ↦ (exit, LeavesFirst one away)
        | GoesOn j ↦ (Over, GoesOn (record { first = j.first; rest = j.rest; split = j.split; begins = j.begins; goes_on = next_over Q j.rest exit j.goes_on }))
        | IsOver one ends_here ↦ (Over, IsOver one refl)
      ]

  turn_broken : (rule : Rule) (had : Bool) (es : List Event) (exit : Exit) → After P (to_next Q) es exit → is_broken rule l had es ≡ true → (then_of e (to_out_of f)).broken rule had ≡ true
  turn_broken rule had es exit path h = let one = turn_in_last es exit path in last_breaks.from rule had es one.0 one.1 h

  pub reached_same : (had : Bool) → reached e f had had ≡ true
  reached_same had = or_left (same had had) ((then_of e (to_next_of f)).ends had Onward had) (same_refl had)

  pub reached_on : (a b c : Bool) → reached e f a b ≡ true → reached e f b c ≡ true → reached e f a c ≡ true
  reached_on a b c h k =
      elim (two_states a b c) [
        | inl s ↦ subst (λ x. reached e f x c ≡ true) (sym s) k
        | inr t ↦ elim t [
          | inl s ↦ subst (λ x. reached e f a x ≡ true) s h
          | inr s ↦ or_left (same a c) ((then_of e (to_next_of f)).ends a Onward c) (subst (λ x. same a x ≡ true) s (same_refl a))
        ]
      ]

  pub reached_turn : (had : Bool) (es : List Event) → After P (to_next Q) es (Leaves Onward) → reached e f had (has_behind l had es) ≡ true
  reached_turn had es path = or_right (same had (has_behind l had es)) ((then_of e (to_next_of f)).ends had Onward (has_behind l had es)) (turn_ends.from had Onward es path)

  pub times_reach : (n : ℕ) (had : Bool) (es : List Event) (exit : Exit) → times n (After P (to_next Q)) es exit → reached e f had (has_behind l had es) ≡ true
  times_reach zero had es exit path = subst (λ xs. reached e f had (has_behind l had xs) ≡ true) (sym path.0) (reached_same had)
  times_reach (suc n) had es exit j =
      let state = has_behind l had j.first in
      subst (λ b. reached e f had b ≡ true) (sym (behind_split l had es j.first j.rest j.split))
      (reached_on had state (has_behind l state j.rest) (reached_turn had j.first j.begins) (times_reach n state j.rest exit j.goes_on))

  times_broken : (n : ℕ) (rule : Rule) (had : Bool) (es : List Event) (exit : Exit) → times n (After P (to_next Q)) es exit → is_broken rule l had es ≡ true → SomeAt (reached e f had) ((then_of e (to_out_of f)).broken rule)
  times_broken zero rule had es exit path h = absurd (false≢true (subst (λ xs. is_broken rule l had xs ≡ true) path.0 h))
  times_broken (suc n) rule had es exit j h =
      elim (broken_parts rule l had es j.first j.rest j.split h) [
        | inl here ↦ record { state = had; may_be = reached_same had; held = turn_broken rule had j.first (Leaves Onward) j.begins here }
        | inr there ↦
            let state = has_behind l had j.first in
            let some = times_broken n rule state j.rest exit j.goes_on there in
            record { state = some.state; may_be = reached_on had state some.state (reached_turn had j.first j.begins) some.may_be; held = some.held }
      ]

  -- iterations that reach a state
  pub record Turned (had state : Bool) : Type 0 where
    pub count : ℕ
    pub events : List Event
    pub path : times count (After P (to_next Q)) events (Leaves Onward)
    pub has_is : has_behind l had events ≡ state

  pub turned : (had state : Bool) → reached e f had state ≡ true → Turned had state
  turned had state h =
      elim (or_cases (same had state) ((then_of e (to_next_of f)).ends had Onward state) h) [
        | inl s ↦ record { count = 0; events = []; path = (refl, refl); has_is = same_true had state s }
        | inr t ↦
            let one = turn_ends.at had Onward state t in
            record {
              count = suc zero;
              events = one.events;
              path = record { first = one.events; rest = []; split = sym (append-nil one.events); begins = one.path; goes_on = (refl, refl) };
              has_is = one.has_is;
            }
      ]

  pub ends_turns : Ends l (turns_of e f) (turns P Q)
  ends_turns = record {
    at = λ had way has h.
        let some = some_at (reached e f had) (λ state. (then_of e (to_out_of f)).ends state way has) h in
        let before = turned had some.state some.may_be in
        let one = last_ends.at some.state way has some.held in
        record {
          events = before.events ++ one.events;
          path = (before.count, record { first = before.events; rest = one.events; split = refl; begins = before.path; goes_on = one.path });
          has_is = behind_append l had before.events one.events ∙ ap (λ s. has_behind l s one.events) before.has_is ∙ one.has_is;
        };
    from = λ had way es path.
        let j = path.1 in
        let state = has_behind l had j.first in
        some_from (reached e f had) (λ s. (then_of e (to_out_of f)).ends s way (has_behind l had es)) state (times_reach path.0 had j.first (Leaves Onward) j.begins)
        (subst (λ b. (then_of e (to_out_of f)).ends state way b ≡ true) (sym (behind_split l had es j.first j.rest j.split)) (last_ends.from state way j.rest j.goes_on));
  }

  pub breaks_turns : Breaks l (turns_of e f) (turns P Q)
  breaks_turns = record {
    at = λ rule had h.
        let some = some_at (reached e f had) ((then_of e (to_out_of f)).broken rule) h in
        let before = turned had some.state some.may_be in
        let one = last_breaks.at rule some.state some.held in
        record {
          events = before.events ++ one.events;
          exit = one.exit;
          path = (before.count, record { first = before.events; rest = one.events; split = refl; begins = before.path; goes_on = one.path });
          broken = broken_right rule l had some.state before.events one.events before.has_is one.broken;
        };
    from = λ rule had es exit path h.
        let j = path.1 in
        elim (broken_parts rule l had es j.first j.rest j.split h) [
          | inl here ↦
              let some = times_broken path.0 rule had j.first (Leaves Onward) j.begins here in
              some_from (reached e f had) ((then_of e (to_out_of f)).broken rule) some.state some.may_be some.held
          | inr there ↦
              let state = has_behind l had j.first in
              some_from (reached e f had) ((then_of e (to_out_of f)).broken rule) state (times_reach path.0 had j.first (Leaves Onward) j.begins)
              (last_breaks.from rule state j.rest exit j.goes_on there)
        ];
  }
