-- The slots with default integer types know the typings with default integer types.
use Rattle.std.proofs.Common.{◌≡◌, ℕ, ◌<◌, IsTrue, true, false, List, length, Some, refl, sym, ap, subst, ◌∙◌, arith}
use Rattle.std.specs.Prelude.{slice_index}
use Rattle.base.specs.TypeData.{TypeData, BoolType, IntType, NumType, AddressType, SignerType, VectorType, StructType, ParamType, SharedType, MutableType, TupleType, TypesData}
use Rattle.unification.specs.Sorts.{is_integer as is_integer_of}
use Rattle.unification.specs.Slots.{Typing, value, wrapped, grouped, Meets, IsOpen, IsRoot, slot_at}
use Rattle.unification.specs.Ranks.{IsRank, refill_by}
use Rattle.unification.specs.Knows.{Knows}
use Rattle.unification.specs.declared.type_variables.slots.Sort.TheVariants.{Any, Single, Value, Integer}
use Rattle.unification.specs.declared.type_variables.slots.Wrap.{Wrap}
use Rattle.unification.specs.declared.type_variables.slots.Wrap.TheVariants.{Vector, Shared, Mutable}
use Rattle.unification.specs.declared.type_variables.slots.Group.{Group}
use Rattle.unification.specs.declared.type_variables.slots.Group.TheVariants.{Struct, Tuple}
use Rattle.unification.specs.declared.type_variables.slots.Term.TheVariants.{Variable, Closed, Made, Grouped}
use Rattle.unification.specs.declared.type_variables.slots.Slot.{Slot}
use Rattle.unification.specs.declared.type_variables.slots.Slot.TheVariants.{Open, Bound}
use Rattle.unification.proofs.Becoming.{bound_says, open_says}
use Rattle.unification.proofs.Refill.{refill_by-open}
use Rattle.typing_rules.specs.Sorts.{is_integer}
use Rattle.typing_rules.specs.Settings.{u64_type}
use Rattle.typing_rules.specs.Answers.{System, Typings, IsForced, IsIntegerVariable, IsDefaulted}
use Rattle.unification.specs.Roots.{IsRootOf, AreRoots}
use Rattle.unification.specs.Given.{Gives, AnyVariable}
use Rattle.unification.specs.Choices.{ChoosesU64}
use Rattle.unification.proofs.Giving.{given_value, meets_old, meets_new, gives_fits, gives_opens}
use Rattle.unification.proofs.Refilling.{plain, plain_typing, not_forced, forced_by}

integer_too : (a : TypeData) → IsTrue (is_integer_of a) → IsTrue (is_integer a)
integer_too BoolType h = h
integer_too (IntType w) h = refl
integer_too NumType h = h
integer_too AddressType h = h
integer_too SignerType h = h
integer_too (VectorType a) h = h
integer_too (StructType s ts) h = h
integer_too (ParamType n) h = h
integer_too (SharedType a) h = h
integer_too (MutableType a) h = h
integer_too (TupleType ts) h = h

pub made_no_integer : (w : Wrap) (a : TypeData) → is_integer (wrapped w a) ≡ false
made_no_integer Vector a = refl
made_no_integer Shared a = refl
made_no_integer Mutable a = refl

pub grouped_no_integer : (g : Group) (ts : TypesData) → is_integer (grouped g ts) ≡ false
grouped_no_integer (Struct s) ts = refl
grouped_no_integer Tuple ts = refl

no_integer : (a b : TypeData) → a ≡ b → is_integer b ≡ false → IsTrue (is_integer a) → ⊥
no_integer a b e f h = let g : false ≡ true = sym f ∙ ap is_integer (sym e) ∙ h in cc

-- a variable that every typing makes an integer, and that is not forced, has an open integer type as its representative
integer_root : {slots : List Slot} {n : ℕ} {These : Typing → Type 0} → Knows slots n These → (r : ℕ → ℕ) → IsRank slots r → (p q : ℕ) → p < n → IsRootOf slots p q → IsIntegerVariable These p →
    (IsForced These p → ⊥) → (x : Slot) → slot_at slots q ≡ x → IsRoot x → x ≡ Open Integer
integer_root {slots} k r rank p q lt is all free (Open Any) e root =
    let u : Typing = refill_by slots (λ a. plain) r in let mu = plain_typing slots r rank in
    absurd (no_integer (u p) BoolType (is.same u mu ∙ refill_by-open slots (λ a. plain) r q Any e) refl (all u (k.from u mu)))
integer_root {slots} k r rank p q lt is all free (Open Single) e root =
    let u : Typing = refill_by slots (λ a. plain) r in let mu = plain_typing slots r rank in
    absurd (no_integer (u p) BoolType (is.same u mu ∙ refill_by-open slots (λ a. plain) r q Single e) refl (all u (k.from u mu)))
integer_root {slots} k r rank p q lt is all free (Open Value) e root =
    let u : Typing = refill_by slots (λ a. plain) r in let mu = plain_typing slots r rank in
    absurd (no_integer (u p) BoolType (is.same u mu ∙ refill_by-open slots (λ a. plain) r q Value e) refl (all u (k.from u mu)))
integer_root {slots} k r rank p q lt is all free (Open Integer) e root = refl
integer_root {slots} k r rank p q lt is all free (Bound (Variable x)) e root = absurd root
integer_root {slots} k r rank p q lt is all free (Bound (Closed of)) e root =
    absurd (free (forced_by k p lt (λ t u mt mu. is.same t mt ∙ bound_says slots q (Closed of) t is.within e mt ∙ sym (is.same u mu ∙ bound_says slots q (Closed of) u is.within e mu))))
integer_root {slots} k r rank p q lt is all free (Bound (Made w x)) e root =
    let u : Typing = refill_by slots (λ a. plain) r in let mu = plain_typing slots r rank in
    absurd (no_integer (u p) (wrapped w (u x)) (is.same u mu ∙ bound_says slots q (Made w x) u is.within e mu) (made_no_integer w (u x)) (all u (k.from u mu)))
integer_root {slots} k r rank p q lt is all free (Bound (Grouped g first m)) e root =
    let u : Typing = refill_by slots (λ a. plain) r in let mu = plain_typing slots r rank in
    absurd (no_integer (u p) (value u (Grouped g first m)) (is.same u mu ∙ bound_says slots q (Grouped g first m) u is.within e mu) (grouped_no_integer g _) (all u (k.from u mu)))

-- an open integer type is an integer in every typing
open_integer : {slots : List Slot} {n : ℕ} {These : Typing → Type 0} → Knows slots n These → (p : ℕ) → p < length slots → p < n → slot_at slots p ≡ Open Integer → IsIntegerVariable These p
open_integer {slots} k p lt inside e t h =
    let u = k.to t h in
    integer_too (t p) (subst (λ (a : TypeData). IsTrue (is_integer_of a)) (u.1.0 p inside) (let i : IsTrue (is_integer_of (u.0 p)) = open_says slots p Integer u.0 lt e u.1.1 in i))

some_same : {x y : TypeData} → Some x ≡ Some y → x ≡ y
some_same e = cc

pub defaults_known : (s : System) (slots given : List Slot) (roots : List ℕ) (r : ℕ → ℕ) → ChoosesU64 s slots → Knows slots s.variables (Typings s) → IsRank slots r →
    AreRoots slots roots (length slots) → Gives slots given Integer u64_type AnyVariable → Knows given s.variables (IsDefaulted s)
defaults_known s slots given roots r wide k rank are g = record {
  fits = gives_fits g k.fits;
  longer = (let a = k.longer in let b = g.same_length in omega (arith, a, b));
  opens = λ p lt o. k.opens p (subst (λ (n : ℕ). p < n) g.same_length lt) (gives_opens g p lt o);
  to = λ t d. let u = k.to t d.typing in (
    u.0,
    (
      u.1.0,
      meets_new g u.0 u.1.1 (λ p lt required e.
          let inside : p < s.variables = k.opens p lt (subst (λ (x : Slot). IsOpen x) (sym e) tt) in
          u.1.0 p inside ∙ d.integers u64_type (wide p lt e) p inside (open_integer k p lt inside e) (not_forced k r rank p p Integer e (λ v m. refl))),
    ),
  );
  from = λ t m. let old : Meets slots t = meets_old g refl t m in record {
    typing = k.from t old;
    integers = λ of is p lt all free.
        let inside : p < length slots = (let a = k.longer in omega (arith, lt, a)) in
        let root = are.each p inside in
        let q : ℕ = slice_index roots p in
        let e : slot_at slots q ≡ Open Integer = integer_root k r rank p q lt root all free (slot_at slots q) refl root.is_root in
        root.same t old ∙ given_value u64_type t q (slot_at given q) (g.given q root.within tt e) (m.each q (subst (λ (n : ℕ). q < n) (sym g.same_length) root.within)) ∙ some_same (sym (wide q root.within e) ∙ is);
  };
}
