-- The effect of each form of control flow is that of its paths.
use Rattle.std.proofs.Common.{◌≡◌, ℕ, Bool, true, false, not, ◌&&◌, ◌||◌, eqb, List, [], ◌∷◌, ◌++◌, map, ◌⊎◌, inl, inr, refl, sym, ap, subst, ◌∙◌}
use Rattle.std.proofs.lemmas.Bool.{or_cases, or_left, or_right, and_parts, and_from, false≢true}
use Rattle.typing_rules.specs.Events.{Event, Ended, Rule, Unassigned, Undropped, has_behind, is_broken}
use Rattle.typing_rules.specs.Flows.{Way, Onward, Broken, Continued, Returned, Happens, Jump, Aborts}
use Rattle.typing_rules.specs.Paths.{Exit, Leaves, Over, Stopped, within, Goes}
use Rattle.definite_assignment.specs.LocalEffects.{LocalEffect, same, is_onward, same_way, is_undropped, is_among, happens_of, jump_of, over, either_of, may_keep, scope_of}
use Rattle.definite_assignment.proofs.Fitting.{EndsAt, BreaksAt, Ends, Breaks, behind_append, behind_split, broken_left, broken_right, broken_parts, same_refl, same_true, some_from, some_at, onward_is}

way_same : (a b : Way) → same_way a b ≡ true → a ≡ b
way_same Onward Onward h = refl
way_same Onward Broken h = absurd (false≢true h)
way_same Onward Continued h = absurd (false≢true h)
way_same Onward Returned h = absurd (false≢true h)
way_same Broken Onward h = absurd (false≢true h)
way_same Broken Broken h = refl
way_same Broken Continued h = absurd (false≢true h)
way_same Broken Returned h = absurd (false≢true h)
way_same Continued Onward h = absurd (false≢true h)
way_same Continued Broken h = absurd (false≢true h)
way_same Continued Continued h = refl
way_same Continued Returned h = absurd (false≢true h)
way_same Returned Onward h = absurd (false≢true h)
way_same Returned Broken h = absurd (false≢true h)
way_same Returned Continued h = absurd (false≢true h)
way_same Returned Returned h = refl

same_way_refl : (a : Way) → same_way a a ≡ true
same_way_refl Onward = refl
same_way_refl Broken = refl
same_way_refl Continued = refl
same_way_refl Returned = refl

-- the way of an exit, or another one if it has none
way_of : Way → Exit → Way
way_of d (Leaves w) = w
way_of d Over = d
way_of d (Stopped n) = d

leaves_same : (a b : Way) → Leaves a ≡ Leaves b → a ≡ b
leaves_same a b h = cc

-- ---- events, jumps, aborts

pub ends_happens : (l : ℕ) (es : List Event) → Ends l (happens_of l es) (Goes (Happens es))
ends_happens l es = record {
  at = λ had way has h.
      let p = and_parts (is_onward way) (same (has_behind l had es) has) h in
      record { events = es; path = (refl, ap Leaves (onward_is way p.0)); has_is = same_true (has_behind l had es) has p.1 };
  from = λ had way events path.
      let w : Onward ≡ way = sym (leaves_same way Onward path.1) in
      let e : es ≡ events = sym path.0 in
      let G : Way → Type 0 = λ w. (is_onward w && same (has_behind l had es) (has_behind l had events)) ≡ true in
      subst G w (subst (λ xs. same (has_behind l had es) (has_behind l had xs) ≡ true) e (same_refl (has_behind l had es)));
}

pub breaks_happens : (l : ℕ) (es : List Event) → Breaks l (happens_of l es) (Goes (Happens es))
breaks_happens l es = record {
  at = λ rule had h. record { events = es; exit = Leaves Onward; path = (refl, refl); broken = h };
  from = λ rule had events exit path h. subst (λ xs. is_broken rule l had xs ≡ true) path.0 h;
}

pub ends_jump : (l : ℕ) (w : Way) → Ends l (jump_of w) (Goes (Jump w))
ends_jump l w = record {
  at = λ had way has h.
      let p = and_parts (same_way w way) (same had has) h in
      record { events = []; path = (refl, ap Leaves (sym (way_same w way p.0))); has_is = same_true had has p.1 };
  from = λ had way events path.
      let e : w ≡ way = sym (leaves_same way w path.1) in
      let n : [] ≡ events = sym path.0 in
      and_from (same_way w way) (same had (has_behind l had events)) (subst (λ x. same_way w x ≡ true) e (same_way_refl w))
      (subst (λ xs. same had (has_behind l had xs) ≡ true) n (same_refl had));
}

pub breaks_jump : (l : ℕ) (w : Way) → Breaks l (jump_of w) (Goes (Jump w))
breaks_jump l w = record {
  at = λ rule had h. absurd (false≢true h);
  from = λ rule had events exit path h. absurd (false≢true (subst (λ xs. is_broken rule l had xs ≡ true) path.0 h));
}

pub ends_over : (l : ℕ) → Ends l over (Goes Aborts)
ends_over l = record {
  at = λ had way has h. absurd (false≢true h);
  from = λ had way events path. let h = path.1 in absurd (cc);
}

pub breaks_over : (l : ℕ) → Breaks l over (Goes Aborts)
breaks_over l = record {
  at = λ rule had h. absurd (false≢true h);
  from = λ rule had events exit path h. absurd (false≢true (subst (λ xs. is_broken rule l had xs ≡ true) path.0 h));
}

-- ---- branches

module _ (l : ℕ) (e f : LocalEffect) (P Q : List Event → Exit → Type 0) where
  pub ends_either : Ends l e P → Ends l f Q → Ends l (either_of e f) (λ events exit. P events exit ⊎ Q events exit)
  ends_either p q = record {
    at = λ had way has h.
        elim (or_cases (e.ends had way has) (f.ends had way has) h) [
          | inl a ↦ let one = p.at had way has a in record { events = one.events; path = inl one.path; has_is = one.has_is }
          | inr b ↦ let one = q.at had way has b in record { events = one.events; path = inr one.path; has_is = one.has_is }
        ];
    from = λ had way es path.
        elim path [
          | inl one ↦ or_left (e.ends had way (has_behind l had es)) (f.ends had way (has_behind l had es)) (p.from had way es one)
          | inr one ↦ or_right (e.ends had way (has_behind l had es)) (f.ends had way (has_behind l had es)) (q.from had way es one)
        ];
  }

  pub breaks_either : Breaks l e P → Breaks l f Q → Breaks l (either_of e f) (λ events exit. P events exit ⊎ Q events exit)
  breaks_either p q = record {
    at = λ rule had h.
        elim (or_cases (e.broken rule had) (f.broken rule had) h) [
          | inl a ↦ let one = p.at rule had a in record { events = one.events; exit = one.exit; path = inl one.path; broken = one.broken }
          | inr b ↦ let one = q.at rule had b in record { events = one.events; exit = one.exit; path = inr one.path; broken = one.broken }
        ];
    from = λ rule had es exit path h.
        elim path [
          | inl one ↦ or_left (e.broken rule had) (f.broken rule had) (p.from rule had es exit one h)
          | inr one ↦ or_right (e.broken rule had) (f.broken rule had) (q.from rule had es exit one h)
        ];
  }

-- ---- a node

module _ (l n : ℕ) (e : LocalEffect) (P : List Event → Exit → Type 0) where
  pub ends_node : Ends l e P → Ends l e (λ events exit. ((events ≡ []) × (exit ≡ Stopped n)) ⊎ P events exit)
  ends_node p = record {
    at = λ had way has h. let one = p.at had way has h in record { events = one.events; path = inr one.path; has_is = one.has_is };
    from = λ had way es path.
        elim path [
          | inl stop ↦ let h = stop.1 in absurd (cc)
          | inr one ↦ p.from had way es one
        ];
  }

  pub breaks_node : Breaks l e P → Breaks l e (λ events exit. ((events ≡ []) × (exit ≡ Stopped n)) ⊎ P events exit)
  breaks_node p = record {
    at = λ rule had h. let one = p.at rule had h in record { events = one.events; exit = one.exit; path = inr one.path; broken = one.broken };
    from = λ rule had es exit path h.
        elim path [
          | inl stop ↦ absurd (false≢true (subst (λ xs. is_broken rule l had xs ≡ true) stop.0 h))
          | inr one ↦ p.from rule had es exit one h
        ];
  }

-- ---- the end of a block

not_either : (s a b : Bool) → ((s && not a) && not b) ≡ (s && not (a || b))
not_either true true b = refl
not_either true false b = refl
not_either false a b = refl

first_or_later : (s a b : Bool) → ((s && a) || ((s && not a) && b)) ≡ (s && (a || b))
first_or_later true true b = refl
first_or_later true false b = refl
first_or_later false a b = refl

pub has_ended : (l : ℕ) (state : Bool) (ls : List ℕ) → has_behind l state (map Ended ls) ≡ (state && not (is_among l ls))
has_ended l true [] = refl
has_ended l false [] = refl
has_ended l state (m ∷ ls) = has_ended l (state && not (eqb m l)) ls ∙ not_either state (eqb m l) (is_among l ls)

pub broken_ended : (l : ℕ) (state : Bool) (ls : List ℕ) → is_broken Undropped l state (map Ended ls) ≡ (state && is_among l ls)
broken_ended l true [] = refl
broken_ended l false [] = refl
broken_ended l state (m ∷ ls) = ap (λ t. (state && eqb m l) || t) (broken_ended l (state && not (eqb m l)) ls) ∙ first_or_later state (eqb m l) (is_among l ls)

pub used_ended : (l : ℕ) (state : Bool) (ls : List ℕ) → is_broken Unassigned l state (map Ended ls) ≡ false
used_ended l state [] = refl
used_ended l state (m ∷ ls) = used_ended l (state && not (eqb m l)) ls

keeps_at : (P : List Event → Exit → Type 0) (l : ℕ) (e : LocalEffect) → Ends l e P → (had : Bool) → may_keep e had ≡ true → (way : Way) × EndsAt P l had way true
keeps_at P l e p had h =
    elim (or_cases (e.ends had Onward true || e.ends had Broken true) (e.ends had Continued true || e.ends had Returned true) h) [
      | inl a ↦ elim (or_cases (e.ends had Onward true) (e.ends had Broken true) a) [
        | inl one ↦ (Onward, p.at had Onward true one)
        | inr one ↦ (Broken, p.at had Broken true one)
      ]
      | inr b ↦ elim (or_cases (e.ends had Continued true) (e.ends had Returned true) b) [
        | inl one ↦ (Continued, p.at had Continued true one)
        | inr one ↦ (Returned, p.at had Returned true one)
      ]
    ]

keeps_from : (e : LocalEffect) (had : Bool) (way : Way) → e.ends had way true ≡ true → may_keep e had ≡ true
keeps_from e had Onward h = or_left (e.ends had Onward true || e.ends had Broken true) (e.ends had Continued true || e.ends had Returned true) (or_left (e.ends had Onward true) (e.ends had Broken true) h)
keeps_from e had Broken h = or_left (e.ends had Onward true || e.ends had Broken true) (e.ends had Continued true || e.ends had Returned true) (or_right (e.ends had Onward true) (e.ends had Broken true) h)
keeps_from e had Continued h = or_right (e.ends had Onward true || e.ends had Broken true) (e.ends had Continued true || e.ends had Returned true) (or_left (e.ends had Continued true) (e.ends had Returned true) h)
keeps_from e had Returned h = or_right (e.ends had Onward true || e.ends had Broken true) (e.ends had Continued true || e.ends had Returned true) (or_right (e.ends had Continued true) (e.ends had Returned true) h)

ended_breaks : (rule : Rule) (l : ℕ) (state : Bool) (ls : List ℕ) → is_broken rule l state (map Ended ls) ≡ true → (is_undropped rule ≡ true) × (state ≡ true) × (is_among l ls ≡ true)
ended_breaks Unassigned l state ls h = absurd (false≢true (sym (used_ended l state ls) ∙ h))
ended_breaks Undropped l state ls h = let p = and_parts state (is_among l ls) (sym (broken_ended l state ls) ∙ h) in (refl, p.0, p.1)

undropped_ended : (rule : Rule) (l : ℕ) (ls : List ℕ) → is_undropped rule ≡ true → is_among l ls ≡ true → is_broken rule l true (map Ended ls) ≡ true
undropped_ended Unassigned l ls h m = absurd (false≢true h)
undropped_ended Undropped l ls h m = broken_ended l true ls ∙ m

-- the path inside a block whose locals end where the path leaves it
record Inside (rule : Rule) (l : ℕ) (had : Bool) (ls : List ℕ) (P : List Event → Exit → Type 0) (events : List Event) : Type 0 where
  first : List Event
  exit : Exit
  inside : P first exit
  broken : (is_broken rule l had first ≡ true) ⊎ ((is_undropped rule ≡ true) × (is_among l ls ≡ true) × ((way : Way) × (exit ≡ Leaves way) × (has_behind l had first ≡ true)))

inside_of : (rule : Rule) (l : ℕ) (had : Bool) (ls : List ℕ) (P : List Event → Exit → Type 0) (events : List Event) (exit : Exit) → within ls P events exit → is_broken rule l had events ≡ true → Inside rule l had ls P events
inside_of rule l had ls P events (Leaves way) path h =
    record {
      first = path.first;
      exit = Leaves way;
      inside = path.inside;
      broken = elim (broken_parts rule l had events path.first (map Ended ls) path.split h) [
        | inl here ↦ inl here
        | inr there ↦ let p = ended_breaks rule l (has_behind l had path.first) ls there in inr (p.0, p.2, (way, refl, p.1))
      ];
    }
inside_of rule l had ls P events Over path h = record { first = events; exit = Over; inside = path; broken = inl h }
inside_of rule l had ls P events (Stopped n) path h = record { first = events; exit = Stopped n; inside = path; broken = inl h }

-- a path inside is one to the end of the block, or is over there
outside_of : (rule : Rule) (l : ℕ) (had : Bool) (ls : List ℕ) (P : List Event → Exit → Type 0) (events : List Event) (exit : Exit) → P events exit → is_broken rule l had events ≡ true → BreaksAt (within ls P) rule l had
outside_of rule l had ls P events (Leaves way) path h = record {
  events = events ++ map Ended ls;
  exit = Leaves way;
  path = record { first = events; split = refl; inside = path };
  broken = broken_left rule l had events (map Ended ls) h;
}
outside_of rule l had ls P events Over path h = record { events = events; exit = Over; path = path; broken = h }
outside_of rule l had ls P events (Stopped n) path h = record { events = events; exit = Stopped n; path = path; broken = h }

module _ (l : ℕ) (ls : List ℕ) (e : LocalEffect) (P : List Event → Exit → Type 0) where
  pub ends_scope : Ends l e P → Ends l (scope_of (is_among l ls) e) (within ls P)
  ends_scope p = record {
    at = λ had way has h.
        let some = some_at (e.ends had way) (λ state. same (state && not (is_among l ls)) has) h in
        let one = p.at had way some.state some.may_be in
        record {
          events = one.events ++ map Ended ls;
          path = record { first = one.events; split = refl; inside = one.path };
          has_is = behind_append l had one.events (map Ended ls) ∙ ap (λ s. has_behind l s (map Ended ls)) one.has_is ∙ has_ended l some.state ls ∙ same_true (some.state && not (is_among l ls)) has some.held;
        };
    from = λ had way es path.
        let state = has_behind l had path.first in
        let last : has_behind l had es ≡ (state && not (is_among l ls)) = behind_split l had es path.first (map Ended ls) path.split ∙ has_ended l state ls in
        some_from (e.ends had way) (λ s. same (s && not (is_among l ls)) (has_behind l had es)) state (p.from had way path.first path.inside)
        (subst (λ b. same (state && not (is_among l ls)) b ≡ true) (sym last) (same_refl (state && not (is_among l ls))));
  }

  pub breaks_scope : Ends l e P → Breaks l e P → Breaks l (scope_of (is_among l ls) e) (within ls P)
  breaks_scope ends p = record {
    at = λ rule had h.
        elim (or_cases (e.broken rule had) (is_undropped rule && (is_among l ls && may_keep e had)) h) [
          | inl a ↦ let one = p.at rule had a in outside_of rule l had ls P one.events one.exit one.path one.broken
          | inr b ↦
              let u = and_parts (is_undropped rule) (is_among l ls && may_keep e had) b in
              let m = and_parts (is_among l ls) (may_keep e had) u.1 in
              let k = keeps_at P l e ends had m.1 in
              let one = k.1 in
              record {
                events = one.events ++ map Ended ls;
                exit = Leaves k.0;
                path = record { first = one.events; split = refl; inside = one.path };
                broken = broken_right rule l had true one.events (map Ended ls) one.has_is (undropped_ended rule l ls u.0 m.0);
              }
        ];
    from = λ rule had es exit path h.
        let A = e.broken rule had in
        let B = is_undropped rule && (is_among l ls && may_keep e had) in
        let i = inside_of rule l had ls P es exit path h in
        elim i.broken [
          | inl here ↦ or_left A B (p.from rule had i.first i.exit i.inside here)
          | inr there ↦
              let way = there.2.0 in
              let inside : P i.first (Leaves way) = subst (λ x. P i.first x) there.2.1 i.inside in
              let kept : e.ends had way true ≡ true = subst (λ b. e.ends had way b ≡ true) there.2.2 (ends.from had way i.first inside) in
              or_right A B (and_from (is_undropped rule) (is_among l ls && may_keep e had) there.0 (and_from (is_among l ls) (may_keep e had) there.1 (keeps_from e had way kept)))
        ];
  }
