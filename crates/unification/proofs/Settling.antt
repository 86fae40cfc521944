-- The slots in which dropped values have type `()` where they can know the settled typings.
use Rattle.std.proofs.Common.{◌≡◌, ℕ, zero, suc, ◌<◌, IsTrue, true, false, List, length, refl, sym, ap, subst, ◌∙◌, arith}
use Rattle.std.specs.Prelude.{slice_index, Contains}
use Rattle.std.proofs.lemmas.List.{get_or_default}
use Rattle.base.specs.TypeData.{TypeData, TupleType, NoTypes, MoreTypes, TypesData}
use Rattle.unification.specs.Sorts.{is_of}
use Rattle.unification.specs.Slots.{Typing, value, wrapped, Meets, IsRoot, slot_at}
use Rattle.unification.specs.Ranks.{IsRank, refill_by}
use Rattle.unification.specs.Knows.{Knows}
use Rattle.unification.specs.declared.type_variables.slots.Sort.{Sort}
use Rattle.unification.specs.declared.type_variables.slots.Sort.TheVariants.{Any, Single, Value, Integer}
use Rattle.unification.specs.declared.type_variables.slots.Wrap.{Wrap}
use Rattle.unification.specs.declared.type_variables.slots.Wrap.TheVariants.{Vector, Shared, Mutable}
use Rattle.unification.specs.declared.type_variables.slots.Group.TheVariants.{Struct, Tuple}
use Rattle.unification.specs.declared.type_variables.slots.Term.TheVariants.{Variable, Closed, Made, Grouped}
use Rattle.unification.specs.declared.type_variables.slots.Slot.{Slot}
use Rattle.unification.specs.declared.type_variables.slots.Slot.TheVariants.{Open, Bound}
use Rattle.unification.proofs.Becoming.{bound_says, open_says}
use Rattle.unification.proofs.Refill.{refill_by-open}
use Rattle.typing_rules.specs.Settings.{unit_type}
use Rattle.typing_rules.specs.Answers.{System, IsForced, IsDefaulted, IsSettledTyping}
use Rattle.unification.specs.Roots.{IsRootOf, AreRoots}
use Rattle.unification.specs.Given.{Gives, IsDropped}
use Rattle.unification.proofs.Giving.{given_value, meets_old, meets_new, gives_fits, gives_opens}
use Rattle.unification.proofs.Refilling.{nothing, nothing_typing, not_forced, forced_by}

wrapped_no_unit : (w : Wrap) (a : TypeData) → wrapped w a ≡ TupleType NoTypes → ⊥
wrapped_no_unit Vector a e = cc
wrapped_no_unit Shared a e = cc
wrapped_no_unit Mutable a e = cc

no_unit : (s : Sort) (a : TypeData) → is_of s unit_type ≡ false → a ≡ unit_type → IsTrue (is_of s a) → ⊥
no_unit s a f e h = let g : false ≡ true = sym f ∙ ap (is_of s) (sym e) ∙ h in cc

parts_no_unit : (a : TypeData) (ts : TypesData) → TupleType (MoreTypes a ts) ≡ TupleType NoTypes → ⊥
parts_no_unit a ts e = cc

-- a representative that is `()` in some typing, and not forced
unit_at : {slots : List Slot} {n : ℕ} {These : Typing → Type 0} → Knows slots n These → (p q : ℕ) → p < n → IsRootOf slots p q → (IsForced These p → ⊥) → (v : Typing) → Meets slots v → v q ≡ unit_type →
    (x : Slot) → slot_at slots q ≡ x → IsRoot x → x ≡ Open Any
unit_at {slots} k p q lt is free v m u (Open Any) e root = refl
unit_at {slots} k p q lt is free v m u (Open Single) e root = absurd (no_unit Single (v q) refl u (open_says slots q Single v is.within e m))
unit_at {slots} k p q lt is free v m u (Open Value) e root = absurd (no_unit Value (v q) refl u (open_says slots q Value v is.within e m))
unit_at {slots} k p q lt is free v m u (Open Integer) e root = absurd (no_unit Integer (v q) refl u (open_says slots q Integer v is.within e m))
unit_at {slots} k p q lt is free v m u (Bound (Variable y)) e root = absurd root
unit_at {slots} k p q lt is free v m u (Bound (Closed of)) e root =
    absurd (free (forced_by k p lt (λ t w mt mw. is.same t mt ∙ bound_says slots q (Closed of) t is.within e mt ∙ sym (is.same w mw ∙ bound_says slots q (Closed of) w is.within e mw))))
unit_at {slots} k p q lt is free v m u (Bound (Made w y)) e root =
    absurd (wrapped_no_unit w (v y) (sym (bound_says slots q (Made w y) v is.within e m) ∙ u))
unit_at {slots} k p q lt is free v m u (Bound (Grouped (Struct id) first count)) e root =
    let h : value v (Grouped (Struct id) first count) ≡ TupleType NoTypes = sym (bound_says slots q (Grouped (Struct id) first count) v is.within e m) ∙ u in cc
unit_at {slots} k p q lt is free v m u (Bound (Grouped Tuple first zero)) e root =
    absurd (free (forced_by k p lt (λ t w mt mw. is.same t mt ∙ bound_says slots q (Grouped Tuple first zero) t is.within e mt ∙ sym (is.same w mw ∙ bound_says slots q (Grouped Tuple first zero) w is.within e mw))))
unit_at {slots} k p q lt is free v m u (Bound (Grouped Tuple first (suc count))) e root =
    absurd (parts_no_unit _ _ (sym (bound_says slots q (Grouped Tuple first (suc count)) v is.within e m) ∙ u))

pub settled_known : (s : System) (slots given : List Slot) (roots dropped : List ℕ) (r : ℕ → ℕ) → Knows slots s.variables (IsDefaulted s) → IsRank slots r → AreRoots slots roots (length slots) →
    s.dropped ≡ dropped → ((k : ℕ) → k < length dropped → slice_index dropped k < s.variables) → Gives slots given Any unit_type (IsDropped roots dropped (length dropped)) →
    Knows given s.variables (IsSettledTyping s)
settled_known s slots given roots dropped r k rank are same within g = record {
  fits = gives_fits g k.fits;
  longer = (let a = k.longer in let b = g.same_length in omega (arith, a, b));
  opens = λ p lt o. k.opens p (subst (λ (n : ℕ). p < n) g.same_length lt) (gives_opens g p lt o);
  to = λ t h. let u = k.to t h.defaulted in (
    u.0,
    (
      u.1.0,
      meets_new g u.0 u.1.1 (λ q lq required e.
          let i : ℕ = required.0 in
          let d : ℕ = slice_index dropped i in
          let inside : d < s.variables = within i required.1.0 in
          let root : IsRootOf slots d q = subst (λ (x : ℕ). IsRootOf slots d x) required.1.1 (are.each d (let a = k.longer in omega (arith, inside, a))) in
          let v : Typing = refill_by slots (λ a. nothing) r in
          let mv : Meets slots v = nothing_typing slots r rank in
          let has : Contains s.dropped d = subst (λ (ds : List ℕ). Contains ds d) (sym same) (i, required.1.0, get_or_default dropped i d 0 required.1.0) in
          let is : t d ≡ unit_type = h.nothing d has (not_forced k r rank d q Any e root.same) v (k.from v mv) (root.same v mv ∙ refill_by-open slots (λ a. nothing) r q Any e) in
          sym (root.same u.0 u.1.1) ∙ u.1.0 d inside ∙ is),
    ),
  );
  from = λ t m. let old : Meets slots t = meets_old g refl t m in record {
    defaulted = k.from t old;
    nothing = λ p has free u hu eu.
        let c : Contains dropped p = subst (λ (ds : List ℕ). Contains ds p) same has in
        let i : ℕ = c.0 in
        let at : slice_index dropped i ≡ p = get_or_default dropped i 0 p c.1 ∙ c.2 in
        let inside : p < s.variables = subst (λ (x : ℕ). x < s.variables) at (within i c.1) in
        let root = are.each p (let a = k.longer in omega (arith, inside, a)) in
        let q : ℕ = slice_index roots p in
        let v = k.to u hu in
        let e : slot_at slots q ≡ Open Any = unit_at k p q inside root free v.0 v.1.1 (sym (root.same v.0 v.1.1) ∙ v.1.0 p inside ∙ eu) (slot_at slots q) refl root.is_root in
        root.same t old ∙ given_value unit_type t q (slot_at given q) (g.given q root.within (i, (c.1, ap (slice_index roots) at)) e)
        (m.each q (subst (λ (n : ℕ). q < n) (sym g.same_length) root.within));
  };
}
