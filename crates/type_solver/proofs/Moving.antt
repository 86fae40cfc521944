-- The meaning of constraints depends only on the typings of the nodes before, and on the types of their variables.
use Rattle.std.proofs.Common.{◌≡◌, ℕ, zero, suc, ◌+◌, ◌<◌, ◌≤◌, List, [], ◌∷◌, map, Some, IsTrue, refl, sym, ap, subst, ◌∙◌, inl, inr, arith}
use Rattle.base.specs.TypeData.{TypeData, TupleType, TypesData, NoTypes, MoreTypes, types_of, StructType}
use Rattle.typing_rules.specs.Sorts.{kind, head, part_kind, behind, target, made, is_of}
use Rattle.typing_rules.specs.Instances.{instance}
use Rattle.typing_rules.specs.Constraint.{TypeForm, Written, Declared, Applied, form_type, types_at, Constraint, Same, Has, MadeOf, TupleOf, IsOf, Alike, Takes, Returns, FieldOf, TargetOf, Through, Behind, Barred}
use Rattle.typing_rules.specs.Rules.{TypeReading, Agree, PointAtOne, Fits, PartsFit, ReturnFits, HoldsAt, EachHolds, IsSettled, EachSettled, field_type}
use Rattle.unification.specs.Slots.{Typing}
use Rattle.unification.specs.Grown.{SameTo}
use Rattle.unification.proofs.Growing.{arguments_same}
use Rattle.type_solver.specs.Within.{FormWithin, IsWritten, VariablesWithin, ConstraintWithin, AllWithin}

pub written_within : (n : ℕ) (form : TypeForm) → IsWritten form → FormWithin n form
written_within n (Written of) h = tt
written_within n (Declared of first count) h = absurd h
written_within n (Applied s first count) h = absurd h

-- each typing of the one set is, as far as the first n variables go, one of the other
pub record Covers (n : ℕ) (P Q : Typing → Type 0) : Type 0 where
  pub cover : (t : Typing) → Q t → (u : Typing) × (SameTo n t u × P u)

pub inside : (n : ℕ) (P Q : Typing → Type 0) → ((t : Typing) → Q t → P t) → Covers n P Q
inside n P Q h = record { cover = λ t q. (t, ((λ p lt. refl), h t q)) }

agree_moved : {A : Type 0} → (look : TypeData → A) (n : ℕ) (P Q : Typing → Type 0) (p : ℕ) → Covers n P Q → p < n → Agree P look p → Agree Q look p
agree_moved look n P Q p c lt h t u qt qu =
    let r = c.cover t qt in let s = c.cover u qu in
    sym (ap look (r.1.0 p lt)) ∙ h r.0 s.0 r.1.1 s.1.1 ∙ ap look (s.1.0 p lt)

fits_moved : (n : ℕ) (P Q : Typing → Type 0) (e : ℕ) (of wanted : TypeData) → Covers n P Q → e < n → Fits P e of wanted → Fits Q e of wanted
fits_moved n P Q e of wanted c lt h = elim h [ inl same ↦ inl same | inr o ↦ inr (agree_moved kind n P Q e c lt o.0, o.1) ]

parts_moved : (n : ℕ) (P Q : Typing → Type 0) (e i : ℕ) (ones others : TypesData) → Covers n P Q → e < n → PartsFit P e i ones others → PartsFit Q e i ones others
parts_moved n P Q e i NoTypes NoTypes c lt h = tt
parts_moved n P Q e i NoTypes (MoreTypes b others) c lt h = absurd h
parts_moved n P Q e i (MoreTypes a ones) NoTypes c lt h = absurd h
parts_moved n P Q e i (MoreTypes a ones) (MoreTypes b others) c lt h =
    (elim h.0 [ inl same ↦ inl same | inr o ↦ inr (agree_moved (part_kind i) n P Q e c lt o.0, o.1) ], parts_moved n P Q e (i + 1) ones others c lt h.1)

return_moved : (n : ℕ) (P Q : Typing → Type 0) (e : ℕ) (of wanted : TypeData) → Covers n P Q → e < n → ReturnFits P e of wanted → ReturnFits Q e of wanted
return_moved n P Q e of wanted c lt h = elim h [
  | inl fits ↦ inl (fits_moved n P Q e of wanted c lt fits)
  | inr o ↦ inr (o.0, o.1, o.2, o.3, parts_moved n P Q e 0 o.0 o.1 c lt o.4)
]

pub holds_moved : (w : TypeReading) (n : ℕ) (P Q : Typing → Type 0) → Covers n P Q → (t : Typing) (d : Constraint) → ConstraintWithin n d → HoldsAt w P t d → HoldsAt w Q t d
holds_moved w n P Q c t (Same a b) lt h = h
holds_moved w n P Q c t (Has p form) lt h = h
holds_moved w n P Q c t (MadeOf p k e) lt h = h
holds_moved w n P Q c t (TupleOf p parts) lt h = h
holds_moved w n P Q c t (IsOf sort p) lt h = h
holds_moved w n P Q c t (Alike a b) lt h = elim h [ inl e ↦ inl e | inr o ↦ inr (agree_moved kind n P Q a c lt.0 o.0, agree_moved kind n P Q b c lt.1 o.1, o.2) ]
holds_moved w n P Q c t (Takes e form) lt h = fits_moved n P Q e (t e) (form_type t form) c lt.0 h
holds_moved w n P Q c t (Returns e form) lt h = return_moved n P Q e (t e) (form_type t form) c lt.0 h
holds_moved w n P Q c t (FieldOf p e name) lt h = h
holds_moved w n P Q c t (TargetOf p e) lt h = h
holds_moved w n P Q c t (Through e) lt h = h
holds_moved w n P Q c t (Behind e) lt h = h
holds_moved w n P Q c t Barred lt h = h

pub each_moved : (w : TypeReading) (n : ℕ) (P Q : Typing → Type 0) → Covers n P Q → (t : Typing) (ds : List Constraint) → AllWithin n ds → EachHolds w P t ds → EachHolds w Q t ds
each_moved w n P Q c t [] lt h = tt
each_moved w n P Q c t (d ∷ ds) lt h = (holds_moved w n P Q c t d lt.0 h.0, each_moved w n P Q c t ds lt.1 h.1)

pub settled_moved : (n : ℕ) (P Q : Typing → Type 0) → Covers n P Q → (d : Constraint) → ConstraintWithin n d → IsSettled P d → IsSettled Q d
settled_moved n P Q c (Same a b) lt h = tt
settled_moved n P Q c (Has p form) lt h = tt
settled_moved n P Q c (MadeOf p k e) lt h = tt
settled_moved n P Q c (TupleOf p parts) lt h = tt
settled_moved n P Q c (IsOf sort p) lt h = tt
settled_moved n P Q c (Alike a b) lt h = tt
settled_moved n P Q c (Takes e form) lt h = tt
settled_moved n P Q c (Returns e form) lt h = tt
settled_moved n P Q c (FieldOf p e name) lt h = agree_moved head n P Q e c lt.1 h
settled_moved n P Q c (TargetOf p e) lt h = agree_moved kind n P Q e c lt.1 h
settled_moved n P Q c (Through e) lt h = agree_moved kind n P Q e c lt h
settled_moved n P Q c (Behind e) lt h = agree_moved kind n P Q e c lt h
settled_moved n P Q c Barred lt h = tt

pub each_settled_moved : (n : ℕ) (P Q : Typing → Type 0) → Covers n P Q → (ds : List Constraint) → AllWithin n ds → EachSettled P ds → EachSettled Q ds
each_settled_moved n P Q c [] lt h = tt
each_settled_moved n P Q c (d ∷ ds) lt h = (settled_moved n P Q c d lt.0 h.0, each_settled_moved n P Q c ds lt.1 h.1)

-- fewer typings agree wherever more do
settled_fewer : (P Q : Typing → Type 0) → ((t : Typing) → Q t → P t) → (d : Constraint) → IsSettled P d → IsSettled Q d
settled_fewer P Q f (Same a b) h = tt
settled_fewer P Q f (Has p form) h = tt
settled_fewer P Q f (MadeOf p k e) h = tt
settled_fewer P Q f (TupleOf p parts) h = tt
settled_fewer P Q f (IsOf sort p) h = tt
settled_fewer P Q f (Alike a b) h = tt
settled_fewer P Q f (Takes e form) h = tt
settled_fewer P Q f (Returns e form) h = tt
settled_fewer P Q f (FieldOf p e name) h = λ t u qt qu. h t u (f t qt) (f u qu)
settled_fewer P Q f (TargetOf p e) h = λ t u qt qu. h t u (f t qt) (f u qu)
settled_fewer P Q f (Through e) h = λ t u qt qu. h t u (f t qt) (f u qu)
settled_fewer P Q f (Behind e) h = λ t u qt qu. h t u (f t qt) (f u qu)
settled_fewer P Q f Barred h = tt

pub each_fewer : (P Q : Typing → Type 0) → ((t : Typing) → Q t → P t) → (ds : List Constraint) → EachSettled P ds → EachSettled Q ds
each_fewer P Q f [] h = tt
each_fewer P Q f (d ∷ ds) h = (settled_fewer P Q f d h.0, each_fewer P Q f ds h.1)

-- ---- typings that give the first n variables the same types

types_kept : (n : ℕ) (t u : Typing) (first count : ℕ) → SameTo n t u → first + count ≤ n → types_at u first count ≡ types_at t first count
types_kept n t u first zero same le = refl
types_kept n t u first (suc count) same le =
    λ i. MoreTypes (same first (omega (arith, le)) i) (types_kept n t u (first + 1) count same (omega (arith, le)) i)

form_kept : (n : ℕ) (t u : Typing) (form : TypeForm) → SameTo n t u → FormWithin n form → form_type u form ≡ form_type t form
form_kept n t u (Written of) same le = refl
form_kept n t u (Declared of first count) same le = ap (λ (s : ℕ → TypeData). instance s of) (λ i k. arguments_same n t u first count le same k i)
form_kept n t u (Applied s first count) same le = ap (StructType s) (types_kept n t u first count same le)

map_kept : (n : ℕ) (t u : Typing) (parts : List ℕ) → SameTo n t u → VariablesWithin n parts → map u parts ≡ map t parts
map_kept n t u [] same lt = refl
map_kept n t u (p ∷ parts) same lt = λ i. same p lt.0 i ∷ map_kept n t u parts same lt.1 i

pub holds_kept : (w : TypeReading) (n : ℕ) (P : Typing → Type 0) (t u : Typing) → SameTo n t u → (d : Constraint) → ConstraintWithin n d → HoldsAt w P t d → HoldsAt w P u d
holds_kept w n P t u same (Same a b) lt h = same a lt.0 ∙ h ∙ sym (same b lt.1)
holds_kept w n P t u same (Has p form) lt h = same p lt.0 ∙ h ∙ sym (form_kept n t u form same lt.1)
holds_kept w n P t u same (MadeOf p k e) lt h = same p lt.0 ∙ h ∙ sym (ap (made k) (same e lt.1))
holds_kept w n P t u same (TupleOf p parts) lt h = same p lt.0 ∙ h ∙ sym (ap (λ (ts : List TypeData). TupleType (types_of ts)) (map_kept n t u parts same lt.1))
holds_kept w n P t u same (IsOf sort p) lt h = subst (λ (a : TypeData). IsTrue (is_of sort a)) (sym (same p lt)) h
holds_kept w n P t u same (Alike a b) lt h = elim h [
  | inl e ↦ inl (same a lt.0 ∙ e ∙ sym (same b lt.1))
  | inr o ↦ inr (o.0, o.1, subst (λ (x : TypeData). PointAtOne x (u b)) (sym (same a lt.0)) (subst (λ (y : TypeData). PointAtOne (t a) y) (sym (same b lt.1)) o.2))
]
holds_kept w n P t u same (Takes e form) lt h =
    subst (λ (x : TypeData). Fits P e x (form_type u form)) (sym (same e lt.0)) (subst (λ (y : TypeData). Fits P e (t e) y) (sym (form_kept n t u form same lt.1)) h)
holds_kept w n P t u same (Returns e form) lt h =
    subst (λ (x : TypeData). ReturnFits P e x (form_type u form)) (sym (same e lt.0)) (subst (λ (y : TypeData). ReturnFits P e (t e) y) (sym (form_kept n t u form same (written_within n form lt.1))) h)
holds_kept w n P t u same (FieldOf p e name) lt h = ap (λ (x : TypeData). field_type w (behind x) name) (same e lt.1) ∙ h ∙ sym (ap Some (same p lt.0))
holds_kept w n P t u same (TargetOf p e) lt h = ap target (same e lt.1) ∙ h ∙ sym (ap Some (same p lt.0))
holds_kept w n P t u same (Through e) lt h = λ is. h (sym (ap kind (same e lt)) ∙ is)
holds_kept w n P t u same (Behind e) lt h = ap kind (same e lt) ∙ h
holds_kept w n P t u same Barred lt h = h

pub each_kept : (w : TypeReading) (n : ℕ) (P : Typing → Type 0) (t u : Typing) → SameTo n t u → (ds : List Constraint) → AllWithin n ds → EachHolds w P t ds → EachHolds w P u ds
each_kept w n P t u same [] lt h = tt
each_kept w n P t u same (d ∷ ds) lt h = (holds_kept w n P t u same d lt.0 h.0, each_kept w n P t u same ds lt.1 h.1)
