-- What slots mean once open ones have been given a type.
use Rattle.std.proofs.Common.{◌≡◌, ◌⊎◌, ℕ, ◌+◌, ◌<◌, IsTrue, List, [], ◌∷◌, ◌++◌, length, length-append, refl, sym, ap, subst, ◌∙◌, inl, inr, arith, get_or-set_other, get_or-set_same}
use Rattle.std.specs.Prelude.{slice_index}
use Rattle.std.proofs.lemmas.Bool.Decides.{eqb_tells}
use Rattle.std.proofs.lemmas.List.{get_or_push, get_or_append_left}
use Rattle.std.proofs.Math.ListN.{set, length-set}
use Rattle.base.specs.TypeData.{TypeData}
use Rattle.unification.specs.Sorts.{is_of}
use Rattle.unification.specs.Slots.{Typing, SlotMeets, Meets, SlotFits, Fits, IsOpen, IsRoot, slot_at}
use Rattle.unification.specs.Ranks.{EachLed, Lower, IsRank}
use Rattle.unification.specs.declared.type_variables.slots.Sort.{Sort}
use Rattle.unification.specs.declared.type_variables.slots.Sort.TheVariants.{Any}
use Rattle.unification.specs.declared.type_variables.slots.Term.TheVariants.{Variable, Closed, Made, Grouped}
use Rattle.unification.specs.declared.type_variables.slots.Slot.{Slot}
use Rattle.unification.specs.declared.type_variables.slots.Slot.TheVariants.{Open, Bound}
use Rattle.unification.specs.Ranked.{rank_at, HasLower, IsRanking}
use Rattle.unification.specs.Roots.{AreRoots}
use Rattle.unification.specs.Given.{IsGiven, GivesOne, GivesTo, Gives, AnyVariable, IsDropped}

-- ---- a slot that has a written type

pub given_value : (of : TypeData) (t : Typing) (p : ℕ) (x : Slot) → IsGiven of x → SlotMeets t p x → t p ≡ of
given_value of t p (Open s) h m = absurd h
given_value of t p (Bound (Variable q)) h m = absurd h
given_value of t p (Bound (Closed y)) h m = m ∙ h
given_value of t p (Bound (Made w q)) h m = absurd h
given_value of t p (Bound (Grouped g first n)) h m = absurd h

given_meets : (of : TypeData) (t : Typing) (p : ℕ) (x : Slot) → IsGiven of x → t p ≡ of → SlotMeets t p x
given_meets of t p (Open s) h e = absurd h
given_meets of t p (Bound (Variable q)) h e = absurd h
given_meets of t p (Bound (Closed y)) h e = e ∙ sym h
given_meets of t p (Bound (Made w q)) h e = absurd h
given_meets of t p (Bound (Grouped g first n)) h e = absurd h

given_fits : (of : TypeData) (n p : ℕ) (x : Slot) → IsGiven of x → SlotFits n p x
given_fits of n p (Open s) h = absurd h
given_fits of n p (Bound (Variable q)) h = absurd h
given_fits of n p (Bound (Closed y)) h = tt
given_fits of n p (Bound (Made w q)) h = absurd h
given_fits of n p (Bound (Grouped g first k)) h = absurd h

pub given_bound : (of : TypeData) (x : Slot) → IsGiven of x → IsOpen x → ⊥
given_bound of (Open s) h o = h
given_bound of (Bound y) h o = o

pub given_not_open : (of : TypeData) (s : Sort) (x : Slot) → IsGiven of x → x ≡ Open s → ⊥
given_not_open of s x h e = given_bound of x h (subst (λ (y : Slot). IsOpen y) (sym e) tt)

given_root : (of : TypeData) (x : Slot) → IsGiven of x → IsRoot x
given_root of (Open s) h = absurd h
given_root of (Bound (Variable q)) h = absurd h
given_root of (Bound (Closed y)) h = tt
given_root of (Bound (Made w q)) h = absurd h
given_root of (Bound (Grouped g first n)) h = absurd h

given_leads : (of : TypeData) (P : ℕ → Type 0) (x : Slot) → IsGiven of x → EachLed P x
given_leads of P (Open s) h = absurd h
given_leads of P (Bound (Variable q)) h = absurd h
given_leads of P (Bound (Closed y)) h = tt
given_leads of P (Bound (Made w q)) h = absurd h
given_leads of P (Bound (Grouped g first n)) h = absurd h

-- ---- slots some of which were given a type

-- a property of each slot that written types have as well
kept : {old new : List Slot} {sort : Sort} {of : TypeData} {Required : ℕ → Type 0} (P : ℕ → Slot → Type 0) → Gives old new sort of Required →
    ((p : ℕ) (x : Slot) → IsGiven of x → P p x) → (p : ℕ) → p < length old → P p (slot_at old p) → P p (slot_at new p)
kept P g given p lt h = elim (g.each p lt) [
  | inl e ↦ subst (λ (x : Slot). P p x) (sym e) h
  | inr w ↦ given p _ w.1
]

pub meets_old : {old new : List Slot} {sort : Sort} {of : TypeData} {Required : ℕ → Type 0} → Gives old new sort of Required → IsTrue (is_of sort of) → (t : Typing) → Meets new t → Meets old t
meets_old {old} {new} {sort} {of} g is t m = record {
  each = λ p lt. let inside : p < length new = subst (λ (n : ℕ). p < n) (sym g.same_length) lt in
      elim (g.each p lt) [
        | inl e ↦ subst (λ (x : Slot). SlotMeets t p x) e (m.each p inside)
        | inr w ↦ subst (λ (x : Slot). SlotMeets t p x) (sym w.0)
            (subst (λ (a : TypeData). IsTrue (is_of sort a)) (sym (given_value of t p (slot_at new p) w.1 (m.each p inside))) is)
      ];
}

pub meets_new : {old new : List Slot} {sort : Sort} {of : TypeData} {Required : ℕ → Type 0} → Gives old new sort of Required → (t : Typing) → Meets old t →
    ((p : ℕ) → p < length old → Required p → slot_at old p ≡ Open sort → t p ≡ of) → Meets new t
meets_new {old} {new} {sort} {of} g t m required = record {
  each = λ p lt. let inside : p < length old = subst (λ (n : ℕ). p < n) g.same_length lt in
      elim (g.each p inside) [
        | inl e ↦ subst (λ (x : Slot). SlotMeets t p x) (sym e) (m.each p inside)
        | inr w ↦ given_meets of t p (slot_at new p) w.1 (required p inside (g.only p inside w.0 w.1) w.0)
      ];
}

pub gives_fits : {old new : List Slot} {sort : Sort} {of : TypeData} {Required : ℕ → Type 0} → Gives old new sort of Required → Fits old → Fits new
gives_fits {old} {new} {sort} {of} g f = record {
  each = λ p lt. let inside : p < length old = subst (λ (n : ℕ). p < n) g.same_length lt in
      subst (λ (n : ℕ). SlotFits n p (slot_at new p)) (sym g.same_length) (kept (SlotFits (length old)) g (given_fits of (length old)) p inside (f.each p inside));
}

pub gives_opens : {old new : List Slot} {sort : Sort} {of : TypeData} {Required : ℕ → Type 0} → Gives old new sort of Required → (p : ℕ) → p < length new → IsOpen (slot_at new p) →
    IsOpen (slot_at old p)
gives_opens {old} {new} {sort} {of} g p lt o = elim (g.each p (subst (λ (n : ℕ). p < n) g.same_length lt)) [
  | inl e ↦ subst (λ (x : Slot). IsOpen x) e o
  | inr w ↦ absurd (given_bound of (slot_at new p) w.1 o)
]

pub gives_rank : {old new : List Slot} {sort : Sort} {of : TypeData} {Required : ℕ → Type 0} → Gives old new sort of Required → (r : ℕ → ℕ) → IsRank old r → IsRank new r
gives_rank {old} {new} {sort} {of} g r rank = record {
  each = λ p lt. let inside : p < length old = subst (λ (n : ℕ). p < n) g.same_length lt in
      subst (λ (n : ℕ). EachLed (Lower n r (r p)) (slot_at new p)) (sym g.same_length)
      (kept (λ q. EachLed (Lower (length old) r (r q))) g (λ q. given_leads of (Lower (length old) r (r q))) p inside (rank.each p inside));
}

pub gives_ranking : {old new : List Slot} {sort : Sort} {of : TypeData} {Required : ℕ → Type 0} → Gives old new sort of Required → (ranks order : List ℕ) → IsRanking old ranks order → IsRanking new ranks order
gives_ranking {old} {new} {sort} {of} g ranks order is = record {
  ranked = record {
    same_length = is.ranked.same_length ∙ sym g.same_length;
    each = λ p lt h. let inside : p < length old = subst (λ (n : ℕ). p < n) g.same_length lt in
        kept (λ q. EachLed (HasLower ranks (rank_at ranks q))) g (λ q. given_leads of (HasLower ranks (rank_at ranks q))) p inside (is.ranked.each p inside h);
    most = λ p lt. is.ranked.most p (subst (λ (n : ℕ). p < n) g.same_length lt);
    listed = λ k lt. let h = is.ranked.listed k lt in (subst (λ (n : ℕ). slice_index order k < n) (sym g.same_length) h.0, h.1);
    placed = λ p k lt. is.ranked.placed p k (subst (λ (n : ℕ). p < n) g.same_length lt);
  };
  all = λ p lt. is.all p (subst (λ (n : ℕ). p < n) g.same_length lt);
  is_rank = gives_rank g (rank_at ranks) is.is_rank;
}

pub gives_roots : {old new : List Slot} {sort : Sort} {of : TypeData} {Required : ℕ → Type 0} → Gives old new sort of Required → IsTrue (is_of sort of) → (roots : List ℕ) →
    AreRoots old roots (length old) → AreRoots new roots (length new)
gives_roots {old} {new} {sort} {of} g is roots are = record {
  count = are.count ∙ sym g.same_length;
  each = λ p lt. let h = are.each p (subst (λ (n : ℕ). p < n) g.same_length lt) in record {
    within = subst (λ (n : ℕ). slice_index roots p < n) (sym g.same_length) h.within;
    is_root = kept (λ q. IsRoot) g (λ q. given_root of) (slice_index roots p) h.within h.is_root;
    same = λ t m. h.same t (meets_old g is t m);
  };
}

-- ---- one slot after another

-- no slot yet
pub gives_none : (old : List Slot) (sort : Sort) (of : TypeData) → GivesTo old [] sort of 0
gives_none old sort of = record {
  count = refl;
  each = λ p lt. absurd (omega (arith, lt));
}

-- one more slot
pub gives_one : (old new : List Slot) (sort : Sort) (of : TypeData) (i : ℕ) (from to : Slot) → i < length old → slot_at old i ≡ from → GivesTo old new sort of i → GivesOne sort of from to →
    GivesTo old (new ++ to ∷ []) sort of (i + 1)
gives_one old new sort of i from to lt e g h = record {
  count = length-append new (to ∷ []) ∙ ap (λ (n : ℕ). n + 1) g.count;
  each = λ p lp. elim (eqb_tells p i) [
    | inl same ↦ subst (λ (q : ℕ). GivesOne sort of (slot_at old q) (slot_at (new ++ to ∷ []) q)) (sym same.1)
        (subst (λ (x : Slot). GivesOne sort of x (slot_at (new ++ to ∷ []) i)) (sym e)
        (subst (λ (x : Slot). GivesOne sort of from x) (sym (get_or_push new to (Open Any) i g.count)) h))
    | inr ne ↦ (let less : p < i = omega (arith, lp, ne.1) in
        subst (λ (x : Slot). GivesOne sort of (slot_at old p) x) (sym (get_or_append_left new (to ∷ []) (Open Any) p (subst (λ (n : ℕ). p < n) (sym g.count) less))) (g.each p less))
  ];
}

pub gives_each : (old new : List Slot) (sort : Sort) (of : TypeData) (n : ℕ) → n ≡ length old → GivesTo old new sort of n → Gives old new sort of AnyVariable
gives_each old new sort of n e g = record {
  same_length = g.count ∙ e;
  each = λ p lt. elim (g.each p (subst (λ (k : ℕ). p < k) (sym e) lt)) [
    | inl h ↦ inr h
    | inr h ↦ inl h.0
  ];
  given = λ p lt a o. elim (g.each p (subst (λ (k : ℕ). p < k) (sym e) lt)) [
    | inl h ↦ h.1
    | inr h ↦ absurd (h.1 o)
  ];
  only = λ p lt o h. tt;
}

-- ---- assigned slots

-- no slot is to be given a type
pub gives_nothing : (old : List Slot) (sort : Sort) (of : TypeData) (roots dropped : List ℕ) → Gives old old sort of (IsDropped roots dropped 0)
gives_nothing old sort of roots dropped = record {
  same_length = refl;
  each = λ p lt. inl refl;
  given = λ p lt a o. absurd (omega (arith, a.1.0));
  only = λ p lt o h. absurd (given_not_open of sort (slot_at old p) h o);
}

dropped_more : (roots dropped : List ℕ) (i p : ℕ) → IsDropped roots dropped i p → IsDropped roots dropped (i + 1) p
dropped_more roots dropped i p h = (h.0, ((let a = h.1.0 in omega (arith, a)), h.1.1))

dropped_last : (roots dropped : List ℕ) (i p : ℕ) → IsDropped roots dropped (i + 1) p → IsDropped roots dropped i p ⊎ (p ≡ slice_index roots (slice_index dropped i))
dropped_last roots dropped i p h = elim (eqb_tells h.0 i) [
  | inl e ↦ inr (sym h.1.1 ∙ ap (λ (k : ℕ). slice_index roots (slice_index dropped k)) e.1)
  | inr e ↦ inl (h.0, ((let a = h.1.0 in omega (arith, a, e.1)), h.1.1))
]

-- the slot of one more variable is assigned
pub gives_here : (old mid : List Slot) (sort : Sort) (of : TypeData) (roots dropped : List ℕ) (i at : ℕ) (x : Slot) → Gives old mid sort of (IsDropped roots dropped i) →
    at < length old → at ≡ slice_index roots (slice_index dropped i) → slot_at mid at ≡ Open sort → IsGiven of x → Gives old (set mid at x) sort of (IsDropped roots dropped (i + 1))
gives_here old mid sort of roots dropped i at x g lt is free given =
    let here : slot_at (set mid at x) at ≡ x = get_or-set_same mid at x (Open Any) (subst (λ (n : ℕ). at < n) (sym g.same_length) lt) in
    let was : slot_at old at ≡ Open sort = elim (g.each at lt) [
      | inl e ↦ sym e ∙ free
      | inr w ↦ absurd (given_not_open of sort (slot_at mid at) w.1 free)
    ] in
    let written : IsGiven of (slot_at (set mid at x) at) = subst (λ (y : Slot). IsGiven of y) (sym here) given in
    record {
      same_length = length-set mid at x ∙ g.same_length;
      each = λ p lp. elim (eqb_tells p at) [
        | inl e ↦ inr (subst (λ (q : ℕ). (slot_at old q ≡ Open sort) × IsGiven of (slot_at (set mid at x) q)) (sym e.1) (was, written))
        | inr e ↦ (let other : slot_at (set mid at x) p ≡ slot_at mid p = get_or-set_other mid at p x (Open Any) e.1 in
            subst (λ (y : Slot). (y ≡ slot_at old p) ⊎ ((slot_at old p ≡ Open sort) × IsGiven of y)) (sym other) (g.each p lp))
      ];
      given = λ p lp a o. elim (eqb_tells p at) [
        | inl e ↦ subst (λ (q : ℕ). IsGiven of (slot_at (set mid at x) q)) (sym e.1) written
        | inr e ↦ (let other : slot_at (set mid at x) p ≡ slot_at mid p = get_or-set_other mid at p x (Open Any) e.1 in
            subst (λ (y : Slot). IsGiven of y) (sym other) (elim (dropped_last roots dropped i p a) [
              | inl b ↦ g.given p lp b o
              | inr b ↦ absurd (e.1 (b ∙ sym is))
            ]))
      ];
      only = λ p lp o h. elim (eqb_tells p at) [
        | inl e ↦ (i, ((omega arith), sym is ∙ sym e.1))
        | inr e ↦ (let other : slot_at (set mid at x) p ≡ slot_at mid p = get_or-set_other mid at p x (Open Any) e.1 in
            dropped_more roots dropped i p (g.only p lp o (subst (λ (y : Slot). IsGiven of y) other h)))
      ];
    }

-- the slot of one more variable is not open
pub gives_still : (old mid : List Slot) (sort : Sort) (of : TypeData) (roots dropped : List ℕ) (i at : ℕ) → Gives old mid sort of (IsDropped roots dropped i) →
    at < length old → at ≡ slice_index roots (slice_index dropped i) → (slot_at mid at ≡ Open sort → ⊥) → Gives old mid sort of (IsDropped roots dropped (i + 1))
gives_still old mid sort of roots dropped i at g lt is bound = record {
  same_length = g.same_length;
  each = g.each;
  given = λ p lp a o. elim (dropped_last roots dropped i p a) [
    | inl b ↦ g.given p lp b o
    | inr b ↦ elim (g.each p lp) [
      | inl e ↦ absurd (bound (ap (slot_at mid) (is ∙ sym b) ∙ e ∙ o))
      | inr w ↦ w.1
    ]
  ];
  only = λ p lp o h. dropped_more roots dropped i p (g.only p lp o h);
}
