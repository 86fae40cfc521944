-- Fields of a known struct.
use Rattle.std.proofs.Common.{◌≡◌, ℕ, zero, suc, ◌+◌, ◌<◌, ◌≤◌, List, length, get_or, Option, Some, None, refl, sym, ap, ◌∙◌, inl, inr, arith}
use Rattle.std.specs.Map.{lookup}
use Rattle.std.specs.Option.{option_map}
use Rattle.std.proofs.lemmas.Bool.Decides.{leb_tells}
use Rattle.base.specs.declared.types.StructId.{StructId}
use Rattle.base.specs.TypeData.{TypeData, BoolType, IntType, NumType, AddressType, SignerType, VectorType, StructType, ParamType, SharedType, MutableType, TupleType, types_of, list_of_types-types_of}
use Rattle.program.specs.Same.{same_struct}
use Rattle.typing_rules.specs.Sorts as R
use Rattle.typing_rules.specs.Constraint as D
use Rattle.typing_rules.specs.Instances.{instance, argument_in, read_type}
use Rattle.typing_rules.specs.Rules.{TypeReading, Agree, field_of, field_type}
use Rattle.unification.specs.Heads as H
use Rattle.unification.specs.Slots.{Typing, value, list_at, Meets}
use Rattle.unification.specs.declared.type_variables.slots.Term.{Term}
use Rattle.unification.specs.declared.type_variables.slots.Term.TheVariants.{Variable}
use Rattle.unification.specs.declared.type_variables.slots.Slot.{Slot}
use Rattle.unification.specs.declared.type_variables.slots.Wrap.{Wrap}
use Rattle.unification.specs.declared.type_variables.heads.KindSeen.TheVariants.{Unsettled, Plain, To}
use Rattle.unification.specs.declared.type_variables.heads.StructSeen.TheVariants.{Unknown, Other}
use Rattle.unification.proofs.Growing.{grown}
use Rattle.unification.proofs.Instancing.{term_more}
use Rattle.type_solver.specs.Equations.{Keeps, KindSaid, Says, HeadOpen, TermSaid}
use Rattle.type_solver.specs.Owners.{OwnerSaid, OwnerOpen, StructSaid}
use Rattle.type_solver.specs.declared.equation.Equation.TheVariants.{Never, Equal}
use Rattle.type_solver.proofs.Bridges.{plain_behind}
use Rattle.type_solver.proofs.Emitting.{earlier, agree_back, kind_unsettled, plain_kind, plain_agree, to_agree, to_behind, variable_more, some_same}

-- ---- owners

pub owner_open : (a b : List Slot) (e : ℕ) → KindSaid a b e Unsettled → OwnerOpen a e
owner_open a b e s = record { differ = kind_unsettled a b e s }

pub owner_plain : (a b : List Slot) (e : ℕ) → KindSaid a b e Plain → e < length a → OwnerSaid a b e (Variable e)
owner_plain a b e s lt = record {
  grows = s.grows;
  settled = plain_agree a b e s lt;
  is = λ t m. plain_behind (t e) (plain_kind a b e s t m);
  within = variable_more a b e s.grows lt;
}

pub owner_to : (a b : List Slot) (e : ℕ) (w : Wrap) (x : Term) → KindSaid a b e (To w x) → e < length a → OwnerSaid a b e x
owner_to a b e w x s lt = record {
  grows = s.grows;
  settled = to_agree a b e w x s lt;
  is = to_behind a b e w x s;
  within = s.within;
}

pub owner_later : (a b c : List Slot) (e : ℕ) (x : Term) → OwnerSaid a b e x → Keeps b c → OwnerSaid a c e x
owner_later a b c e x o g = record {
  grows = grown o.grows g;
  settled = o.settled;
  is = λ t m. o.is t (earlier b c g t m);
  within = term_more (length b) (length c) x g.longer o.within;
}

-- ---- structs

no_field : (w : TypeReading) (a : TypeData) (name : List ℕ) → H.struct_in a ≡ None → field_type w a name ≡ None
no_field w BoolType name e = refl
no_field w (IntType k) name e = refl
no_field w NumType name e = refl
no_field w AddressType name e = refl
no_field w SignerType name e = refl
no_field w (VectorType t) name e = refl
no_field w (StructType s ts) name e = cc
no_field w (ParamType n) name e = refl
no_field w (SharedType t) name e = refl
no_field w (MutableType t) name e = refl
no_field w (TupleType ts) name e = refl

head_same : (x y : TypeData) → R.kind x ≡ R.kind y → R.struct_in (R.behind x) ≡ R.struct_in (R.behind y) → R.head x ≡ R.head y
head_same x y k s = λ i. record { kind = k i; of = s i }

-- the struct of the owner, from the term of its type
owner_struct : (a b : List Slot) (e : ℕ) (x : Term) → OwnerSaid a b e x → (t : Typing) → Meets b t → R.struct_in (R.behind (t e)) ≡ H.struct_in (value t x)
owner_struct a b e x o t m = ap R.struct_in (o.is t m)

pub head_agree : (a b : List Slot) (e : ℕ) (x : Term) → OwnerSaid a b e x → e < length a →
    ((t u : Typing) → Meets b t → Meets b u → H.struct_in (value t x) ≡ H.struct_in (value u x)) → Agree (Meets a) R.head e
head_agree a b e x o lt same = agree_back R.head a b e o.grows lt
    (λ t u mt mu. head_same (t e) (u e) (o.settled t u (earlier a b o.grows t mt) (earlier a b o.grows u mu))
    (owner_struct a b e x o t mt ∙ same t u mt mu ∙ sym (owner_struct a b e x o u mu)))

pub field_open : (a b : List Slot) (p e : ℕ) (name : List ℕ) (x : Term) → StructSaid a b e x Unknown → HeadOpen a (D.FieldOf p e name)
field_open a b p e name x s = record {
  differ = λ t m agree. (let o = s.owner in let r = o.grows.forth t m tt in
      s.unseen r.0 r.1.1 (λ u v mu mv. sym (owner_struct a b e x o u mu)
      ∙ ap (λ (h : R.Head). h.of) (agree u v (earlier a b o.grows u mu) (earlier a b o.grows v mv)) ∙ owner_struct a b e x o v mv));
}

pub field_other : (w : TypeReading) (a b : List Slot) (p e : ℕ) (name : List ℕ) (x : Term) → StructSaid a b e x Other → e < length a → Says w a b (D.FieldOf p e name) Never
field_other w a b p e name x s lt = record {
  to = λ t m h. (let z = sym (ap (λ (of : TypeData). field_type w of name) (s.owner.is t m) ∙ no_field w (value t x) name (s.of t m)) ∙ h in cc);
  from = λ t m h. absurd h;
  settled = head_agree a b e x s.owner lt (λ t u mt mu. s.of t mt ∙ sym (s.of u mu));
  within = tt;
}

known_agree : (a b : List Slot) (e : ℕ) (x : Term) (id : StructId) (base count : ℕ) → ((t : Typing) → Meets b t → value t x ≡ StructType id (types_of (list_at t base count))) →
    OwnerSaid a b e x → e < length a → Agree (Meets a) R.head e
known_agree a b e x id base count of o lt = head_agree a b e x o lt (λ t u mt mu. ap H.struct_in (of t mt) ∙ sym (ap H.struct_in (of u mu)))

-- the type of the field of this name of a struct with type arguments
field_is : (w : TypeReading) (id : StructId) (name : List ℕ) (found : Option TypeData) (a : TypeData) (ts : List TypeData) → field_of (lookup (same_struct id) w.structs) name ≡ found →
    a ≡ StructType id (types_of ts) → field_type w a name ≡ option_map (λ of. instance (argument_in (types_of ts)) (read_type w.is_spec of)) found
field_is w id name found a ts e is = ap (λ (x : TypeData). field_type w x name) is ∙ ap (option_map (λ of. instance (argument_in (types_of ts)) (read_type w.is_spec of))) e

at_list : (t : Typing) (base count k : ℕ) (d : TypeData) → k < count → get_or (list_at t base count) k d ≡ t (base + k)
at_list t base zero k d lt = absurd (omega (arith, lt))
at_list t base (suc count) zero d lt = ap t (let e : base ≡ base + 0 = omega arith in e)
at_list t base (suc count) (suc k) d lt = at_list t (base + 1) count k d (omega (arith, lt)) ∙ ap t (let e : base + 1 + k ≡ base + suc k = omega arith in e)

past_list : (t : Typing) (base count k : ℕ) (d : TypeData) → count ≤ k → get_or (list_at t base count) k d ≡ d
past_list t base zero k d le = refl
past_list t base (suc count) zero d le = absurd (omega (arith, le))
past_list t base (suc count) (suc k) d le = past_list t (base + 1) count k d (omega (arith, le))

argument_same : (t : Typing) (base count k : ℕ) → argument_in (types_of (list_at t base count)) k ≡ D.arguments t base count k
argument_same t base count k = ap (λ (ts : List TypeData). get_or ts k (ParamType k)) (list_of_types-types_of (list_at t base count)) ∙ elim (leb_tells (suc k) count) [
  | inl e ↦ simp e.0 (at_list t base count k (ParamType k) e.1)
  | inr e ↦ simp e.0 (past_list t base count k (ParamType k) (omega (arith, e.1)))
]

pub instance_at : (t : Typing) (base count : ℕ) (of : TypeData) → instance (argument_in (types_of (list_at t base count))) of ≡ instance (D.arguments t base count) of
instance_at t base count of = ap (λ (s : ℕ → TypeData). instance s of) (λ i k. argument_same t base count k i)

pub field_absent : (w : TypeReading) (a b : List Slot) (p e : ℕ) (name : List ℕ) (x : Term) (id : StructId) (base count : ℕ) → OwnerSaid a b e x → e < length a →
    ((t : Typing) → Meets b t → value t x ≡ StructType id (types_of (list_at t base count))) → field_of (lookup (same_struct id) w.structs) name ≡ None →
    Says w a b (D.FieldOf p e name) Never
field_absent w a b p e name x id base count o lt of none = record {
  to = λ t m h. (let z = sym (field_is w id name None (R.behind (t e)) (list_at t base count) none (o.is t m ∙ of t m)) ∙ h in cc);
  from = λ t m h. absurd h;
  settled = known_agree a b e x id base count of o lt;
  within = tt;
}

pub field_known : (w : TypeReading) (a b c : List Slot) (p e : ℕ) (name : List ℕ) (x y : Term) (id : StructId) (base count : ℕ) (field : TypeData) → OwnerSaid a b e x → e < length a → p < length b →
    ((t : Typing) → Meets b t → value t x ≡ StructType id (types_of (list_at t base count))) → field_of (lookup (same_struct id) w.structs) name ≡ Some field →
    TermSaid b c y (λ t. instance (D.arguments t base count) (read_type w.is_spec field)) → Says w a c (D.FieldOf p e name) (Equal (Variable p) y)
field_known w a b c p e name x y id base count field o lt lp of found said =
    let there : (t : Typing) → Meets c t → field_type w (R.behind (t e)) name ≡ Some (value t y) =
    λ t m. (let mb = earlier b c said.grows t m in
    field_is w id name (Some field) (R.behind (t e)) (list_at t base count) found (o.is t mb ∙ of t mb)
    ∙ ap Some (instance_at t base count (read_type w.is_spec field) ∙ sym (said.is t m))) in
    record {
      to = λ t m h. some_same (t p) (value t y) (sym h ∙ there t m);
      from = λ t m h. there t m ∙ ap Some (sym h);
      settled = known_agree a b e x id base count of o lt;
      within = (variable_more b c p said.grows lp, said.within);
    }

pub owner_head_open : (a : List Slot) (p e : ℕ) (name : List ℕ) → OwnerOpen a e → HeadOpen a (D.FieldOf p e name)
owner_head_open a p e name o = record { differ = λ t m agree. o.differ t m (λ u v mu mv. ap (λ (h : R.Head). h.kind) (agree u v mu mv)) }
