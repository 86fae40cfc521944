-- The invariants when an equation is added, and those of the empty state.
use Rattle.std.proofs.Common.{◌≡◌, ◌≢◌, ◌⊎◌, inl, inr, ℕ, ◌<◌, List, [], ◌∷◌, ◌++◌, length, take, Option, Some, None, refl, sym, ap, ◌∙◌, subst, arith}
use Rattle.std.specs.Prelude.{slice_get, Contains}
use Rattle.term_pool.specs.declared.node.Node.{Node}
use Rattle.congruence_closure.specs.Congruence.{AreTerms}
use Rattle.congruence_closure.specs.Links.{Linked, IsReason}
use Rattle.congruence_closure.specs.Signatures.{class_in}
use Rattle.congruence_closure.specs.States.{SameClass, IsNear, IsReasonable, IsTabled, IsSound, IsKept, IsNext, IsDone, numbers_at}
use Rattle.congruence_closure.specs.declared.classes.link.Equation.{Equation}
use Rattle.congruence_closure.specs.declared.classes.link.Link.{Link}
use Rattle.congruence_closure.specs.declared.classes.link.Why.{Why}
use Rattle.congruence_closure.specs.declared.classes.link.Why.TheVariants.{Given, Alike}
use Rattle.congruence_closure.proofs.ListLemmas.{push_kept, push_new, push_cases}
use Rattle.congruence_closure.proofs.TableLemmas.{near_more}

abbrev pub equation : ℕ → ℕ → Equation
equation left right = record { left = left; right = right }

abbrev pub given : ℕ → ℕ → ℕ → Link
given left right k = record { left = left; right = right; why = Given k }

module _ (ns : List Node) (es : List Equation) (left right : ℕ) (wl : left < length ns) (wr : right < length ns) where
  terms : AreTerms ns es → AreTerms ns (es ++ equation left right ∷ [])
  terms t = record {
    parts = t.parts;
    left = λ k e found. lefts k e (push_cases es (equation left right) k e found);
    right = λ k e found. rights k e (push_cases es (equation left right) k e found);
  }
    where
      lefts : (k : ℕ) (e : Equation) → (slice_get es k ≡ Some e) ⊎ ((k ≡ length es) × (e ≡ equation left right)) → e.left < length ns
      lefts k e (inl h) = t.left k e h
      lefts k e (inr h) = subst (λ (f : Equation). f.left < length ns) (sym h.1) wl

      rights : (k : ℕ) (e : Equation) → (slice_get es k ≡ Some e) ⊎ ((k ≡ length es) × (e ≡ equation left right)) → e.right < length ns
      rights k e (inl h) = t.right k e h
      rights k e (inr h) = subst (λ (f : Equation). f.right < length ns) (sym h.1) wr

  reason : (R : ℕ → ℕ → Type 0) (i j : ℕ) (why : Why) → IsReason ns es R i j why → IsReason ns (es ++ equation left right ∷ []) R i j why
  reason R i j (Given k) r = record { equation = r.equation; found = push_kept es (equation left right) k r.equation r.found; left = r.left; right = r.right }
  reason R i j Alike r = r

  module _ (c : ℕ → ℕ) (ls ws : List Link) where
    abbrev link : Link
    link = given left right (length es)

    reasonable : (l : Link) → IsReasonable ns es c l → IsReasonable ns (es ++ equation left right ∷ []) c l
    reasonable l r = record { reason = reason (SameClass c) l.left l.right l.why r.reason; left = r.left; right = r.right }

    new : IsReasonable ns (es ++ equation left right ∷ []) c (given left right (length es))
    new = record { reason = record { equation = equation left right; found = push_new es (equation left right); left = refl; right = refl }; left = wl; right = wr }

    sound_more : IsSound ns es c ls ws → IsSound ns (es ++ equation left right ∷ []) c ls (ws ++ given left right (length es) ∷ [])
    sound_more s = record {
      terms = terms s.terms;
      named = s.named;
      linked = s.linked;
      shown = record { each = λ k l e. reason (Linked (take k ls)) l.left l.right l.why (s.shown.each k l e) };
      reasons = λ k l e. reasons l k (push_cases ws (given left right (length es)) k l e);
      met = λ k e found. met k e (push_cases es (equation left right) k e found);
    }
      where
        reasons : (l : Link) (k : ℕ) → (slice_get ws k ≡ Some l) ⊎ ((k ≡ length ws) × (l ≡ given left right (length es))) → IsReasonable ns (es ++ equation left right ∷ []) c l
        reasons l k (inl h) = reasonable l (s.reasons k l h)
        reasons l k (inr h) = subst (IsReasonable ns (es ++ equation left right ∷ []) c) (sym h.1) new

        at_end : IsNear c (ws ++ given left right (length es) ∷ []) left right
        at_end = inr (record { position = length ws; link = given left right (length es); found = push_new ws (given left right (length es)); left = refl; right = refl })

        met : (k : ℕ) (e : Equation) → (slice_get es k ≡ Some e) ⊎ ((k ≡ length es) × (e ≡ equation left right)) → IsNear c (ws ++ given left right (length es) ∷ []) e.left e.right
        met k e (inl h) = near_more c ws (given left right (length es)) e.left e.right (s.met k e h)
        met k e (inr h) = subst (λ (f : Equation). IsNear c (ws ++ given left right (length es) ∷ []) f.left f.right) (sym h.1) at_end

  pub equation_kept : (cs : List ℕ) (ms us : List (List ℕ)) (T : Node → Option ℕ) (ls ws : List Link) → IsKept ns es cs ms us T ls ws → IsKept ns (es ++ equation left right ∷ []) cs ms us T ls (ws ++ given left right (length es) ∷ [])
  equation_kept cs ms us T ls ws kept = record {
    one_each = kept.one_each;
    sound = sound_more (class_in cs) ls ws kept.sound;
    tabled = record { honest = kept.tabled.honest; each = λ i w. tabled (kept.tabled.each i w) };
    members = kept.members;
    users = kept.users;
  }
    where
      tabled : {i : ℕ} → IsTabled ns (class_in cs) T ws i → IsTabled ns (class_in cs) T (ws ++ given left right (length es) ∷ []) i
      tabled {i} t = record { node = t.node; found = t.found; holder = t.holder; held = t.held; near = near_more (class_in cs) ws (given left right (length es)) i t.holder t.near }

  pub equation_in : (cs : List ℕ) (ms us : List (List ℕ)) (T : Node → Option ℕ) (ls ws : List Link) (es2 : List Equation) (ws2 : List Link) (k : ℕ) → IsKept ns es cs ms us T ls ws → es2 ≡ es ++ equation left right ∷ [] → ws2 ≡ ws ++ given left right k ∷ [] → k ≡ length es → IsKept ns es2 cs ms us T ls ws2
  equation_in cs ms us T ls ws es2 ws2 k kept equations waiting number =
      subst (λ (xs : List Equation). IsKept ns xs cs ms us T ls ws2) (sym equations)
      (subst (λ (xs : List Link). IsKept ns (es ++ equation left right ∷ []) cs ms us T ls xs) (sym (waiting ∙ ap (λ n. ws ++ given left right n ∷ []) number))
      (equation_kept cs ms us T ls ws kept))

-- ---- the next edge

module _ (ns : List Node) (es : List Equation) (cs : List ℕ) (ms us : List (List ℕ)) (T : Node → Option ℕ) (ls ws : List Link) (kept : IsKept ns es cs ms us T ls ws) (cs0 : List ℕ) (same : cs0 ≡ cs) where
  pub next_left : (k : ℕ) (l : Link) → slice_get ws k ≡ Some l → l.left < length cs0
  next_left k l e = let h = (kept.sound.reasons k l e).left in let long = kept.one_each in let long0 = ap length same in omega (arith, h, long, long0)

  pub next_right : (k : ℕ) (l : Link) → slice_get ws k ≡ Some l → l.right < length cs0
  next_right k l e = let h = (kept.sound.reasons k l e).right in let long = kept.one_each in let long0 = ap length same in omega (arith, h, long, long0)

  -- other edges are pending, and the related numbers remain related
  other_links : (vs : List Link) → ((k : ℕ) (l : Link) → slice_get vs k ≡ Some l → slice_get ws k ≡ Some l) → ((i j : ℕ) → IsNear (class_in cs) ws i j → IsNear (class_in cs) vs i j) → IsKept ns es cs ms us T ls vs
  other_links vs among near = record {
    one_each = kept.one_each;
    sound = record {
      terms = kept.sound.terms;
      named = kept.sound.named;
      linked = kept.sound.linked;
      shown = kept.sound.shown;
      reasons = λ k l e. kept.sound.reasons k l (among k l e);
      met = λ k e found. near e.left e.right (kept.sound.met k e found);
    };
    tabled = record { honest = kept.tabled.honest; each = λ i w. tabled i (kept.tabled.each i w) };
    members = kept.members;
    users = kept.users;
  }
    where
      tabled : (i : ℕ) → IsTabled ns (class_in cs) T ws i → IsTabled ns (class_in cs) T vs i
      tabled i t = record { node = t.node; found = t.found; holder = t.holder; held = t.held; near = near i t.holder t.near }

  pub kept_next : (vs : List Link) (l : Link) → IsNext (class_in cs0) ws vs l → IsKept ns es cs ms us T ls (vs ++ l ∷ [])
  kept_next vs l next = other_links (vs ++ l ∷ []) next.among (subst (λ (xs : List ℕ). (i j : ℕ) → IsNear (class_in xs) ws i j → IsNear (class_in xs) (vs ++ l ∷ []) i j) same next.near)

  pub next_apart : (vs : List Link) (l : Link) → IsNext (class_in cs0) ws vs l → class_in cs l.left ≢ class_in cs l.right
  next_apart vs l next = subst (λ (xs : List ℕ). class_in xs l.left ≢ class_in xs l.right) same next.apart

  pub kept_done : (vs : List Link) → IsDone (class_in cs0) ws vs → IsKept ns es cs ms us T ls vs
  kept_done vs done =
      let near : (i j : ℕ) → IsNear (class_in cs0) ws i j → SameClass (class_in cs0) i j = done.same in
      subst (λ (xs : List Link). IsKept ns es cs ms us T ls xs) (sym done.none)
      (other_links [] (λ k l e. absurd (none k l e)) (λ i j h. inl (subst (λ (xs : List ℕ). (i j : ℕ) → IsNear (class_in xs) ws i j → SameClass (class_in xs) i j) same near i j h)))
    where
      none : (k : ℕ) (l : Link) → slice_get {X = Link} [] k ≡ Some l → ⊥
      none k l e = absurd (cc)

-- ---- the empty state

nothing : {X : Type 0} (k : ℕ) (x : X) → slice_get [] k ≡ Some x → ⊥
nothing k x e = absurd (cc)

empty : (k i : ℕ) → Contains (numbers_at [] k) i → ⊥
empty k i h = let w = h.1 in omega (arith, w)

pub kept_of_nothing : (T : Node → Option ℕ) → ((s : Node) → T s ≡ None) → IsKept [] [] [] [] [] T [] []
kept_of_nothing T none = record {
  one_each = refl;
  sound = record {
    terms = record { parts = λ i n e. absurd (nothing i n e); left = λ k e found. absurd (nothing k e found); right = λ k e found. absurd (nothing k e found) };
    named = record { within = λ i w. absurd (omega (arith, w)); named = λ i. refl; beyond = λ i w. refl };
    linked = λ i j w v e. absurd (omega (arith, w));
    shown = record { each = λ k l e. absurd (nothing k l e) };
    reasons = λ k l e. absurd (nothing k l e);
    met = λ k e found. absurd (nothing k e found);
  };
  tabled = record { honest = record { each = λ s v e. absurd (let f : None ≡ Some v = sym (none s) ∙ e in cc) }; each = λ i w. absurd (omega (arith, w)) };
  members = record { one_each = refl; all = λ i w. absurd (omega (arith, w)); within = λ k i h. absurd (empty k i h) };
  users = record { one_each = refl; all = λ i p n e. absurd (nothing i n e); within = λ k i h. absurd (empty k i h) };
}
