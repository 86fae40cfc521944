-- A returned type fits as a whole, or part by part.
use Rattle.std.proofs.Common.{◌≡◌, ℕ, zero, suc, ◌+◌, ◌<◌, ◌++◌, List, [], ◌∷◌, length, map, take, get_or, Some, true, false, refl, sym, ap, subst, ◌∙◌, inl, inr, arith}
use Rattle.std.specs.Prelude.{slice_get, option_and_then}
use Rattle.std.proofs.lemmas.List.{take_more}
use Rattle.base.specs.TypeData.{TypeData, TypesData, NoTypes, MoreTypes, SharedType, MutableType, TupleType, types_of, list_of_types, list_of_types-types_of, types_of_injective}
use Rattle.typing_rules.specs.Sorts as R
use Rattle.typing_rules.specs.declared.sort.Reference.TheVariants.{Mutable as rule_mutable}
use Rattle.typing_rules.specs.Constraint as D
use Rattle.typing_rules.specs.Rules.{TypeReading, Agree, PartsFit}
use Rattle.type_constraints.specs.Seen.{plain_type, seen_form}
use Rattle.type_constraints.specs.declared.constraint.PlainType.{PlainType}
use Rattle.type_constraints.specs.declared.constraint.PlainType.TheVariants as P
use Rattle.type_constraints.specs.declared.constraint.TypeForm.{TypeForm}
use Rattle.type_constraints.specs.declared.constraint.TypeForm.TheVariants as F
use Rattle.unification.specs.Slots.{Typing, value, grouped, list_at, Meets, TermWithin}
use Rattle.unification.specs.declared.type_variables.slots.Group.TheVariants.{Tuple}
use Rattle.unification.specs.declared.type_variables.slots.Slot.{Slot}
use Rattle.unification.specs.declared.type_variables.slots.Wrap.TheVariants.{Vector, Shared, Mutable}
use Rattle.unification.specs.declared.type_variables.slots.Term.{Term}
use Rattle.unification.specs.declared.type_variables.slots.Term.TheVariants.{Variable}
use Rattle.unification.specs.declared.type_variables.heads.KindSeen.TheVariants.{Unsettled, Plain, To}
use Rattle.unification.proofs.Growing.{grown}
use Rattle.type_solver.specs.Within.{IsWritten}
use Rattle.type_solver.specs.Equations.{Keeps, KindSaid, Says, Emits}
use Rattle.type_solver.specs.Tuples.{is_shared, TupleSaid, PartAt, PartSaid, PartsSaid}
use Rattle.type_solver.specs.declared.tuples.Parts.{Parts}
use Rattle.type_solver.specs.declared.equation.Equation.{Equation}
use Rattle.type_solver.specs.declared.equation.Equation.TheVariants.{Equal}
use Rattle.type_solver.proofs.Emitting.{earlier, agree_back, agree_on, kind_unsettled, plain_kind, shared_kind, mutable_kind, no_vector, variable_more}

-- ---- lists of types

tuple_same : (ts us : TypesData) → TupleType ts ≡ TupleType us → ts ≡ us
tuple_same ts us e = cc

head_same : (x y : TypeData) (xs ys : List TypeData) → x ∷ xs ≡ y ∷ ys → x ≡ y
head_same x y xs ys e = cc

tail_same : (x y : TypeData) (xs ys : List TypeData) → x ∷ xs ≡ y ∷ ys → xs ≡ ys
tail_same x y xs ys e = cc

list_at_length : (t : Typing) (first n : ℕ) → length (list_at t first n) ≡ n
list_at_length t first zero = refl
list_at_length t first (suc n) = ap suc (list_at_length t (first + 1) n)

-- ---- parts of tuples

same_parts : (P : Typing → Type 0) (e i : ℕ) (ts : TypesData) → PartsFit P e i ts ts
same_parts P e i NoTypes = tt
same_parts P e i (MoreTypes a ts) = (inl refl, same_parts P e (i + 1) ts)

parts_length : (P : Typing → Type 0) (e i : ℕ) (ones others : TypesData) → PartsFit P e i ones others → length (list_of_types ones) ≡ length (list_of_types others)
parts_length P e i NoTypes NoTypes h = refl
parts_length P e i NoTypes (MoreTypes b others) h = absurd h
parts_length P e i (MoreTypes a ones) NoTypes h = absurd h
parts_length P e i (MoreTypes a ones) (MoreTypes b others) h = ap suc (parts_length P e (i + 1) ones others h.1)

-- if the kind of no part is settled, each part is the same
parts_open : (P : Typing → Type 0) (e i : ℕ) (ones others : TypesData) → ((k : ℕ) → Agree P (R.part_kind k) e → ⊥) → PartsFit P e i ones others → ones ≡ others
parts_open P e i NoTypes NoTypes none h = refl
parts_open P e i NoTypes (MoreTypes b others) none h = absurd h
parts_open P e i (MoreTypes a ones) NoTypes none h = absurd h
parts_open P e i (MoreTypes a ones) (MoreTypes b others) none h =
    let first : a ≡ b = elim h.0 [ inl same ↦ same | inr o ↦ absurd (none i o.0) ] in
    let rest = parts_open P e (i + 1) ones others none h.1 in
    λ k. MoreTypes (first k) (rest k)

-- what the terms of the parts imply
parts_to : (a b : List Slot) (e i p : ℕ) (t : Typing) → Meets b t → (types : List TypeData) (terms : List Term) → PartsSaid a b e i p types terms →
    PartsFit (Meets a) e i (types_of (list_at t p (length types))) (types_of types) → map (value t) terms ≡ types
parts_to a b e i p t m [] [] s h = refl
parts_to a b e i p t m [] (x ∷ terms) s h = absurd s
parts_to a b e i p t m (of ∷ types) [] s h = absurd s
parts_to a b e i p t m (of ∷ types) (x ∷ terms) s h =
    let rest = parts_to a b e (i + 1) (p + 1) t m types terms s.1 h.1 in λ k. s.0.to t m h.0 k ∷ rest k

parts_from : (a b : List Slot) (e i p : ℕ) (t : Typing) → Meets b t → (types : List TypeData) (terms : List Term) → PartsSaid a b e i p types terms →
    map (value t) terms ≡ types → PartsFit (Meets a) e i (types_of (list_at t p (length types))) (types_of types)
parts_from a b e i p t m [] [] s h = tt
parts_from a b e i p t m [] (x ∷ terms) s h = absurd s
parts_from a b e i p t m (of ∷ types) [] s h = absurd s
parts_from a b e i p t m (of ∷ types) (x ∷ terms) s h =
    (s.0.from t m (head_same (value t x) of (map (value t) terms) types h), parts_from a b e (i + 1) (p + 1) t m types terms s.1 (tail_same (value t x) of (map (value t) terms) types h))

-- ---- one part

said_later : (a b c : List Slot) (e i p : ℕ) (of : TypeData) (x : Term) → Keeps b c → PartSaid a b e i p of x → PartSaid a c e i p of x
said_later a b c e i p of x g s = record {
  to = λ t m h. s.to t (earlier b c g t m) h;
  from = λ t m h. s.from t (earlier b c g t m) h;
}

pub parts_later : (a b c : List Slot) (e i p : ℕ) (types : List TypeData) (terms : List Term) → Keeps b c → PartsSaid a b e i p types terms → PartsSaid a c e i p types terms
parts_later a b c e i p [] [] g s = tt
parts_later a b c e i p [] (x ∷ terms) g s = absurd s
parts_later a b c e i p (of ∷ types) [] g s = absurd s
parts_later a b c e i p (of ∷ types) (x ∷ terms) g s = (said_later a b c e i p of x g s.0, parts_later a b c e (i + 1) (p + 1) types terms g s.1)

parts_push : (a b : List Slot) (e i p j q : ℕ) (types : List TypeData) (terms : List Term) (of : TypeData) (x : Term) → j ≡ i + length types → q ≡ p + length types →
    PartsSaid a b e i p types terms → PartSaid a b e j q of x → PartsSaid a b e i p (types ++ of ∷ []) (terms ++ x ∷ [])
parts_push a b e i p j q [] [] of x ej eq s one =
    (subst (λ (n : ℕ). PartSaid a b e n p of x) (let r : j ≡ i = omega (arith, ej) in r) (subst (λ (n : ℕ). PartSaid a b e j n of x) (let r : q ≡ p = omega (arith, eq) in r) one), tt)
parts_push a b e i p j q [] (y ∷ terms) of x ej eq s one = absurd s
parts_push a b e i p j q (b0 ∷ types) [] of x ej eq s one = absurd s
parts_push a b e i p j q (b0 ∷ types) (y ∷ terms) of x ej eq s one =
    (s.0, parts_push a b e (i + 1) (p + 1) j q types terms of x (omega (arith, ej)) (omega (arith, eq)) s.1 one)

-- a part that is not lent
part_same : (a b : List Slot) (e i p : ℕ) (of : TypeData) →
    ((t : Typing) → Meets b t → Agree (Meets a) (R.part_kind i) e → (inner : TypeData) → t p ≡ MutableType inner → of ≡ SharedType inner → ⊥) → PartSaid a b e i p of (Variable p)
part_same a b e i p of never = record {
  to = λ t m h. elim h [ inl same ↦ same | inr o ↦ absurd (never t m o.0 o.1.0 o.1.1 o.1.2) ];
  from = λ t m same. inl same;
}

pub part_kept : (a b : List Slot) (e i p : ℕ) (of : TypeData) → is_shared of ≡ false → PartSaid a b e i p of (Variable p)
part_kept a b e i p of plain = part_same a b e i p of (λ t m agree inner is shared. (let z = sym plain ∙ ap is_shared shared in cc))

pub part_unsettled : (a b c : List Slot) (e i p : ℕ) (of : TypeData) → PartAt a b e i p → KindSaid b c p Unsettled → PartSaid a c e i p of (Variable p)
part_unsettled a b c e i p of at s = part_same a c e i p of (λ t m agree inner is shared.
    kind_unsettled b c p s t (earlier b c s.grows t m) (λ u v mu mv. sym (at.is u mu) ∙ agree u v (earlier a b at.grows u mu) (earlier a b at.grows v mv) ∙ at.is v mv))

pub part_plain : (a b c : List Slot) (e i p : ℕ) (of : TypeData) → KindSaid b c p Plain → PartSaid a c e i p of (Variable p)
part_plain a b c e i p of s = part_same a c e i p of (λ t m agree inner is shared. (let z = sym (plain_kind b c p s t m) ∙ ap R.kind is in cc))

pub part_shared : (a b c : List Slot) (e i p : ℕ) (of : TypeData) (y : Term) → KindSaid b c p (To Shared y) → PartSaid a c e i p of (Variable p)
part_shared a b c e i p of y s = part_same a c e i p of (λ t m agree inner is shared. (let z = sym (shared_kind b c p y s t m) ∙ is in cc))

pub part_vector : (a b c : List Slot) (e i p : ℕ) (of : TypeData) (y : Term) → KindSaid b c p (To Vector y) → PartSaid a c e i p of (Variable p)
part_vector a b c e i p of y s = part_same a c e i p of (λ t m agree inner is shared. no_vector b c p y s t m)

mutable_same : (x y : TypeData) → MutableType x ≡ MutableType y → x ≡ y
mutable_same x y e = cc

-- a part that is lent
pub part_lent : (a b c d : List Slot) (e i p : ℕ) (of : TypeData) (y x : Term) → PartAt a b e i p → KindSaid b c p (To Mutable y) → is_shared of ≡ true → Keeps c d →
    ((t : Typing) → Meets d t → value t x ≡ SharedType (value t y)) → PartSaid a d e i p of x
part_lent a b c d e i p of y x at s shared g is =
    let all : Keeps a d = grown at.grows (grown s.grows g) in
    let mutable : (t : Typing) → Meets d t → t p ≡ MutableType (value t y) = λ t m. mutable_kind b c p y s t (earlier c d g t m) in
    let kind : (t : Typing) → Meets d t → R.part_kind i (t e) ≡ Some rule_mutable = λ t m. at.is t (earlier b c s.grows t (earlier c d g t m)) ∙ ap R.kind (mutable t m) in
    record {
      to = λ t m h. elim h [
        | inl same ↦ absurd (let z = ap is_shared (sym (mutable t m) ∙ same) ∙ shared in cc)
        | inr o ↦ is t m ∙ ap SharedType (mutable_same (value t y) o.1.0 (sym (mutable t m) ∙ o.1.1)) ∙ sym o.1.2
      ];
      from = λ t m h. inr (agree_back (R.part_kind i) a d e all at.inside (λ u v mu mv. kind u mu ∙ sym (kind v mv)), (value t y, mutable t m, sym h ∙ is t m));
    }

-- ---- the parts of a known tuple

kind_of_part : (t : Typing) (first n i : ℕ) → i < n → option_and_then R.kind (slice_get (list_at t first n) i) ≡ R.kind (t (first + i))
kind_of_part t first zero i lt = absurd (omega (arith, lt))
kind_of_part t first (suc n) zero lt = ap (λ (q : ℕ). R.kind (t q)) (let e : first ≡ first + 0 = omega arith in e)
kind_of_part t first (suc n) (suc i) lt = kind_of_part t (first + 1) n i (omega (arith, lt)) ∙ ap (λ (q : ℕ). R.kind (t q)) (let e : first + 1 + i ≡ first + suc i = omega arith in e)

part_kind_at : (t : Typing) (e first n i : ℕ) → i < n → t e ≡ TupleType (types_of (list_at t first n)) → R.part_kind i (t e) ≡ R.kind (t (first + i))
part_kind_at t e first n i lt is =
    ap (R.part_kind i) is ∙ ap (λ (ts : List TypeData). option_and_then R.kind (slice_get ts i)) (list_of_types-types_of (list_at t first n)) ∙ kind_of_part t first n i lt

part_at : (a b c : List Slot) (e i : ℕ) (parts : Parts) → i < parts.count → Keeps b c → TupleSaid a b e parts → PartAt a c e i (parts.first + i)
part_at a b c e i parts lt g s = record {
  grows = grown s.grows g;
  inside = s.inside;
  is = λ t m. part_kind_at t e parts.first parts.count i lt (s.is t (earlier b c g t m));
}

-- one more part
pub parts_next : (a b c d : List Slot) (e i : ℕ) (parts : Parts) (types : List TypeData) (of : TypeData) (terms more : List Term) (x : Term) → i < length types → of ≡ get_or types i of → parts.count ≡ length types →
    Keeps b c → Keeps c d → TupleSaid a b e parts → (PartAt a c e i (parts.first + i) → PartSaid a d e i (parts.first + i) of x) → more ≡ terms ++ x ∷ [] →
    PartsSaid a c e 0 parts.first (take i types) terms → PartsSaid a d e 0 parts.first (take (i + 1) types) more
parts_next a b c d e i parts types of terms more x lt at count g h s one pushed all =
    subst (λ (xs : List Term). PartsSaid a d e 0 parts.first (take (i + 1) types) xs) (sym pushed)
    (subst (λ (ts : List TypeData). PartsSaid a d e 0 parts.first ts (terms ++ x ∷ [])) (ap (λ (y : TypeData). take i types ++ y ∷ []) at ∙ sym (take_more types i of lt))
    (parts_push a d e 0 parts.first i (parts.first + i) (take i types) terms of x (let n = taken i types lt in omega (arith, n)) (let n = taken i types lt in omega (arith, n))
    (parts_later a c d e 0 parts.first (take i types) terms h all)
    (one (part_at a b c e i parts (omega (arith, lt, count)) g s))))
  where
    taken : (n : ℕ) (ts : List TypeData) → n < length ts → length (take n ts) ≡ n
    taken n [] lt = absurd (omega (arith, lt))
    taken zero (y ∷ ts) lt = refl
    taken (suc n) (y ∷ ts) lt = ap suc (taken n ts (omega (arith, lt)))

-- ---- returned types

-- it fits only as a whole
whole_says : (w : TypeReading) (a b : List Slot) (e : ℕ) (of : TypeData) (types : TypesData) (x : Term) → Keeps a b → e < length a → TermWithin (length b) x → ((t : Typing) → value t x ≡ of) → of ≡ TupleType types →
    ((t : Typing) → Meets b t → (ones : TypesData) → t e ≡ TupleType ones → PartsFit (Meets a) e 0 ones types → ones ≡ types) → Says w a b (D.Returns e (D.Written of)) (Equal (Variable e) x)
whole_says w a b e of types x g lt within is tuple same = record {
  to = λ t m h. elim h [
    | inl fits ↦ elim fits [ inl one ↦ one ∙ sym (is t) | inr o ↦ absurd (let z = sym tuple ∙ o.1.2 in cc) ]
    | inr o ↦ (let others : o.1 ≡ types = tuple_same o.1 types (sym o.3 ∙ tuple) in
        o.2 ∙ ap TupleType (same t m o.0 o.2 (subst (λ (ts : TypesData). PartsFit (Meets a) e 0 o.0 ts) others o.4)) ∙ sym tuple ∙ sym (is t))
  ];
  from = λ t m h. inl (inl (h ∙ is t));
  settled = tt;
  within = (variable_more a b e g lt, within);
}

pub open_emits : (w : TypeReading) (a b : List Slot) (e : ℕ) (of : TypeData) (types : List TypeData) (x : Term) → Keeps a b → e < length a → TermWithin (length b) x → ((t : Typing) → value t x ≡ of) → of ≡ TupleType (types_of types) →
    ((t : Typing) → Meets b t → (ts : TypesData) → t e ≡ TupleType ts → (i : ℕ) → Agree (Meets b) (R.part_kind i) e → ⊥) → Says w a b (D.Returns e (D.Written of)) (Equal (Variable e) x)
open_emits w a b e of types x g lt within is tuple none = whole_says w a b e of (types_of types) x g lt within is tuple
    (λ t m ones at fit. parts_open (Meets a) e 0 ones (types_of types) (λ i agree. none t m ones at i (agree_on (R.part_kind i) a b e g agree)) fit)

pub other_emits : (w : TypeReading) (a b : List Slot) (e : ℕ) (parts : Parts) (of : TypeData) (types : List TypeData) (x : Term) → TupleSaid a b e parts → TermWithin (length b) x → ((t : Typing) → value t x ≡ of) → of ≡ TupleType (types_of types) →
    (parts.count ≡ length types → ⊥) → Says w a b (D.Returns e (D.Written of)) (Equal (Variable e) x)
other_emits w a b e parts of types x s within is tuple differ = whole_says w a b e of (types_of types) x s.grows s.inside within is tuple
    (λ t m ones at fit. absurd (differ (
    sym (list_at_length t parts.first parts.count) ∙ sym (ap length (list_of_types-types_of (list_at t parts.first parts.count)))
    ∙ ap (λ (ts : TypesData). length (list_of_types ts)) (tuple_same (types_of (list_at t parts.first parts.count)) ones (sym (s.is t m) ∙ at))
    ∙ parts_length (Meets a) e 0 ones (types_of types) fit ∙ ap length (list_of_types-types_of types))))

pub parts_emit : (w : TypeReading) (a b c d : List Slot) (e : ℕ) (parts : Parts) (of : TypeData) (types : List TypeData) (terms : List Term) (x y : Term) → TupleSaid a b e parts → Keeps b c → Keeps c d →
    parts.count ≡ length types → of ≡ TupleType (types_of types) → PartsSaid a c e 0 parts.first types terms → TermWithin (length d) x → TermWithin (length d) y →
    ((t : Typing) → Meets d t → value t x ≡ grouped Tuple (types_of (map (value t) terms))) → ((t : Typing) → value t y ≡ of) → Says w a d (D.Returns e (D.Written of)) (Equal x y)
parts_emit w a b c d e parts of types terms x y s g h count tuple said wx wy made is =
    let whole : (t : Typing) → Meets d t → t e ≡ TupleType (types_of (list_at t parts.first (length types))) =
    λ t m. s.is t (earlier b c g t (earlier c d h t m)) ∙ ap (λ (n : ℕ). TupleType (types_of (list_at t parts.first n))) count in
    let fitted : (t : Typing) → Meets d t → PartsFit (Meets a) e 0 (types_of (list_at t parts.first (length types))) (types_of types) → value t x ≡ value t y =
    λ t m fit. made t m ∙ ap (λ (ts : List TypeData). TupleType (types_of ts)) (parts_to a c e 0 parts.first t (earlier c d h t m) types terms said fit) ∙ sym tuple ∙ sym (is t) in
    record {
      to = λ t m fits. elim fits [
        | inl one ↦ elim one [
          | inl same ↦ fitted t m (subst (λ (ts : TypesData). PartsFit (Meets a) e 0 ts (types_of types)) (sym (tuple_same (types_of (list_at t parts.first (length types))) (types_of types) (sym (whole t m) ∙ same ∙ tuple)))
              (same_parts (Meets a) e 0 (types_of types)))
          | inr o ↦ absurd (let z = sym tuple ∙ o.1.2 in cc)
        ]
        | inr o ↦ fitted t m (subst (λ (ts : TypesData). PartsFit (Meets a) e 0 ts (types_of types)) (tuple_same o.0 (types_of (list_at t parts.first (length types))) (sym o.2 ∙ whole t m))
            (subst (λ (us : TypesData). PartsFit (Meets a) e 0 o.0 us) (tuple_same o.1 (types_of types) (sym o.3 ∙ tuple)) o.4))
      ];
      from = λ t m one.
          let are : map (value t) terms ≡ types = types_of_injective (map (value t) terms) types (tuple_same (types_of (map (value t) terms)) (types_of types) (sym (made t m) ∙ one ∙ is t ∙ tuple)) in
          inr (types_of (list_at t parts.first (length types)), types_of types, whole t m, tuple, parts_from a c e 0 parts.first t (earlier c d h t m) types terms said are);
      settled = tt;
      within = (wx, wy);
    }

-- ---- types that are no tuples

-- what is no tuple fits as a whole
single_says : (w : TypeReading) (a b : List Slot) (e : ℕ) (of : TypeData) (q : Equation) → ((ts : TypesData) → of ≡ TupleType ts → ts ≡ NoTypes) → Says w a b (D.Takes e (D.Written of)) q → Says w a b (D.Returns e (D.Written of)) q
single_says w a b e of q none s = record {
  to = λ t m h. s.to t m (elim h [
    | inl fits ↦ fits
    | inr o ↦ inl (o.2 ∙ ap TupleType (parts_none (Meets a) e 0 o.0 o.1 (none o.1 o.3) o.4) ∙ sym o.3)
  ]);
  from = λ t m h. inl (s.from t m h);
  settled = tt;
  within = s.within;
}
  where
    parts_none : (P : Typing → Type 0) (e i : ℕ) (ones others : TypesData) → others ≡ NoTypes → PartsFit P e i ones others → ones ≡ others
    parts_none P e i NoTypes NoTypes none h = refl
    parts_none P e i NoTypes (MoreTypes b others) none h = absurd h
    parts_none P e i (MoreTypes a ones) NoTypes none h = absurd h
    parts_none P e i (MoreTypes a ones) (MoreTypes b others) none h = cc

pub single_emits : (w : TypeReading) (a b : List Slot) (e : ℕ) (of : TypeData) (q : Equation) → ((ts : TypesData) → of ≡ TupleType ts → ts ≡ NoTypes) → Emits w a b (D.Takes e (D.Written of)) q → Emits w a b (D.Returns e (D.Written of)) q
single_emits w a b e of Equation.Always none s = single_says w a b e of Equation.Always none s
single_emits w a b e of Equation.Never none s = single_says w a b e of Equation.Never none s
single_emits w a b e of Equation.Unsettled none s = record { differ = λ t m settled. s.differ t m tt }
single_emits w a b e of (Equation.Equal x y) none s = single_says w a b e of (Equation.Equal x y) none s
single_emits w a b e of (Equation.Sorted sort p) none s = single_says w a b e of (Equation.Sorted sort p) none s
single_emits w a b e of (Equation.Lent x p) none s = single_says w a b e of (Equation.Lent x p) none s

plain_single : (p : PlainType) (ts : TypesData) → plain_type p ≡ TupleType ts → ts ≡ NoTypes
plain_single P.Bool ts e = cc
plain_single (P.Int w) ts e = cc
plain_single P.Num ts e = cc
plain_single P.Address ts e = cc
plain_single P.Nothing ts e = tuple_same ts NoTypes (sym e)

-- a type of the language itself
pub plain_emits : (w : TypeReading) (a b : List Slot) (e : ℕ) (form : TypeForm) (q : Equation) → IsWritten (seen_form form) → ((of : _) → form ≡ F.Written of → ⊥) → ((of : _) → form ≡ F.Read of → ⊥) → Emits w a b (D.Takes e (seen_form form)) q → Emits w a b (D.Returns e (seen_form form)) q
plain_emits w a b e (F.Plain p) q h never unread s = single_emits w a b e (plain_type p) q (plain_single p) s
plain_emits w a b e (F.Written of) q h never unread s = absurd (never of refl)
plain_emits w a b e (F.Read of) q h never unread s = absurd (unread of refl)
plain_emits w a b e (F.DeclaredRead of first count) q h never unread s = absurd h
plain_emits w a b e (F.Declared of first count) q h never unread s = absurd h
plain_emits w a b e (F.Builtin of first count) q h never unread s = absurd h
plain_emits w a b e (F.Applied id first count) q h never unread s = absurd h
