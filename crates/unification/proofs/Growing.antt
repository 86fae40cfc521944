-- Extension of slots.
use Rattle.std.proofs.Common.{◌≡◌, ℕ, suc, ◌+◌, ◌<◌, ◌≤◌, List, length, refl, sym, ap, subst, ◌∙◌, inl, inr, arith}
use Rattle.std.proofs.lemmas.Bool.Decides.{leb_tells}
use Rattle.unification.specs.Slots.{Typing, value, TermWithin, Meets, Becomes}
use Rattle.unification.specs.Instances.{instance, arguments}
use Rattle.unification.specs.declared.type_variables.slots.Term.{Term}
use Rattle.unification.proofs.Refill.{value-same}
use Rattle.unification.proofs.Adding.{within_each}
use Rattle.unification.specs.Grown.{SameTo, Grows}
use Rattle.unification.specs.Agree.{Agree}
use Rattle.base.specs.TypeData.{TypeData}
use Rattle.unification.specs.declared.type_variables.slots.Slot.{Slot}

pub grown : {a b c : List Slot} {F G H : Typing → Type 0} → Grows a F b G → Grows b G c H → Grows a F c H
grown {a} {b} p q = record {
  fits = q.fits;
  longer = omega (arith, p.longer, q.longer);
  opens = λ n lt o. let r = q.opens n lt o in p.opens n r.0 r.1;
  forth = λ t m f. let r = p.forth t m f in let s = q.forth r.0 r.1.1 r.1.2 in
      (s.0, ((λ n lt. s.1.0 n (omega (arith, lt, p.longer)) ∙ r.1.0 n lt), s.1.1, s.1.2));
  back = λ t m h. let r = q.back t m h in p.back t r.0 r.1;
}

pub stays : {a b : List Slot} {F G : Typing → Type 0} → Becomes a F b G → Grows a F b G
stays {a} {b} p = record {
  fits = p.fits;
  longer = omega (arith, p.same_length);
  opens = λ n lt o. (subst (λ (k : ℕ). n < k) p.same_length lt, p.opens n lt o);
  forth = λ t m f. let r = p.forth t m f in (t, ((λ n lt. refl), r.0, r.1));
  back = p.back;
}

-- a property of the old variables alone is kept by an extension
pub grown_beside : {a b : List Slot} {F G : Typing → Type 0} → (H : Typing → Type 0) →
    ((t u : Typing) → SameTo (length a) t u → H t → H u) → Grows a F b G → Grows a (λ t. F t × H t) b (λ t. G t × H t)
grown_beside H kept p = record {
  fits = p.fits;
  longer = p.longer;
  opens = p.opens;
  forth = λ t m f. let r = p.forth t m f.0 in (r.0, (r.1.0, r.1.1, (r.1.2, kept t r.0 r.1.0 f.1)));
  back = λ t m g. let r = p.back t m g.0 in (r.0, (r.1, g.1));
}

-- all typings that meet the old slots and F agree on an old variable if those that meet the new slots do
pub agree_grown : {A : Type 0} {a b : List Slot} {F G : Typing → Type 0} → (look : TypeData → A) (p : ℕ) → Grows a F b G → p < length a →
    Agree (λ t. Meets b t × G t) look p → Agree (λ t. Meets a t × F t) look p
agree_grown look p g lt agree t u mt mu =
    let r = g.forth t mt.0 mt.1 in let s = g.forth u mu.0 mu.1 in
    sym (ap look (r.1.0 p lt)) ∙ agree r.0 s.0 (r.1.1, r.1.2) (s.1.1, s.1.2) ∙ ap look (s.1.0 p lt)

pub agree_shrunk : {A : Type 0} {a b : List Slot} {F G : Typing → Type 0} → (look : TypeData → A) (p : ℕ) → Grows a F b G →
    Agree (λ t. Meets a t × F t) look p → Agree (λ t. Meets b t × G t) look p
agree_shrunk look p g agree t u mt mu = agree t u (g.back t mt.0 mt.1) (g.back u mu.0 mu.1)

-- a property of a typing, as a property of the new slots
pub grown_said : {a b c : List Slot} {G : Typing → Type 0} → (F E : Typing → Type 0) → Grows a (λ t. Unit {0}) b (λ t. Unit {0}) →
    ((t u : Typing) → SameTo (length a) t u → F t → F u) → ((t : Typing) → Meets b t → F t → E t) → ((t : Typing) → Meets b t → E t → F t) →
    Grows b E c G → Grows a F c G
grown_said {a} {b} F E p kept to from q = record {
  fits = q.fits;
  longer = omega (arith, p.longer, q.longer);
  opens = λ n lt o. let r = q.opens n lt o in p.opens n r.0 r.1;
  forth = λ t m f. let r = p.forth t m tt in let s = q.forth r.0 r.1.1 (to r.0 r.1.1 (kept t r.0 r.1.0 f)) in
      (s.0, ((λ n lt. s.1.0 n (omega (arith, lt, p.longer)) ∙ r.1.0 n lt), s.1.1, s.1.2));
  back = λ t m g. let r = q.back t m g in ((p.back t r.0 tt).0, from t r.0 r.1);
}

-- types made of the types of old variables are unchanged
pub arguments_same : (n : ℕ) (t u : Typing) (base count : ℕ) → base + count ≤ n → SameTo n t u → (k : ℕ) → arguments u base count k ≡ arguments t base count k
arguments_same n t u base count le same k = elim (leb_tells (suc k) count) [
  | inl e ↦ simp e.0 (same (base + k) (omega (arith, le, e.1)))
  | inr e ↦ simp e.0 refl
]

pub instance_kept : (n : ℕ) (t u : Typing) (base count : ℕ) (of : TypeData) → base + count ≤ n → SameTo n t u →
    instance (arguments u base count) of ≡ instance (arguments t base count) of
instance_kept n t u base count of le same = ap (λ (s : ℕ → TypeData). instance s of) (λ i k. arguments_same n t u base count le same k i)

pub value_kept : (n : ℕ) (t u : Typing) (x : Term) → TermWithin n x → SameTo n t u → value u x ≡ value t x
value_kept n t u x h same = value-same (λ q. q < n) u t x (within_each n x h) same
