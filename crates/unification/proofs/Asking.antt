-- Equations between the parts of two types.
use Rattle.std.proofs.Common.{zero, suc, [], ◌∷◌, ◌+◌, ◌++◌, ◌≡◌, ◌≢◌, ℕ, ◌<◌, ◌≤◌, Bool, true, false, List, length, get_or, take, refl, sym, ap, subst, ◌∙◌, inl, inr, arith}
use Rattle.std.proofs.lemmas.List.Sums.{sum_by_push, sum_by-cons, sum_by-take-le}
use Rattle.std.proofs.lemmas.Bool.Decides.{eqb_tells}
use Rattle.std.specs.Prelude.{sum_by}
use Rattle.base.specs.TypeData.{TypeData, BoolType, IntType, NumType, AddressType, SignerType, VectorType, StructType, ParamType, SharedType, MutableType, TupleType, TypesData, types_of, types_of_injective, type_size, types_size}
use Rattle.unification.specs.Slots.{Typing, list_at, wrapped, grouped, TermWithin}
use Rattle.unification.specs.Asks.{Has, EachHas, AsksWithin, ask_work, asks_work, Adds, Says}
use Rattle.unification.specs.declared.type_variables.slots.Wrap.{Wrap}
use Rattle.unification.specs.declared.type_variables.slots.Wrap.TheVariants.{Vector, Shared, Mutable}
use Rattle.unification.specs.declared.type_variables.slots.Group.{Group}
use Rattle.unification.specs.declared.type_variables.slots.Group.TheVariants.{Struct, Tuple}
use Rattle.unification.specs.declared.type_variables.slots.Ask.{Ask}

pub each_more : (t : Typing) (asks : List Ask) (a : Ask) → EachHas t asks → Has t a → EachHas t (asks ++ a ∷ [])
each_more t [] a h g = (g, tt)
each_more t (x ∷ asks) a h g = (h.0, each_more t asks a h.1 g)

pub each_less : (t : Typing) (asks : List Ask) (a : Ask) → EachHas t (asks ++ a ∷ []) → EachHas t asks × Has t a
each_less t [] a h = (tt, h.0)
each_less t (x ∷ asks) a h = let r = each_less t asks a h.1 in ((h.0, r.0), r.1)

pub within_more : (n : ℕ) (asks : List Ask) (a : Ask) → AsksWithin n asks → a.variable < n → TermWithin n a.term → AsksWithin n (asks ++ a ∷ [])
within_more n [] a h p x = (p, x, tt)
within_more n (y ∷ asks) a h p x = (h.0, h.1, within_more n asks a h.2 p x)

within_split : (n : ℕ) (asks : List Ask) (a : Ask) → AsksWithin n (asks ++ a ∷ []) → (a.variable < n) × TermWithin n a.term × AsksWithin n asks
within_split n [] a h = (h.0, h.1, tt)
within_split n (x ∷ asks) a h = let r = within_split n asks a h.2 in (r.0, r.1, (h.0, h.1, r.2))

pub within_less : (n : ℕ) (all asks : List Ask) (a : Ask) → all ≡ asks ++ a ∷ [] → AsksWithin n all → (a.variable < n) × TermWithin n a.term × AsksWithin n asks
within_less n all asks a e h = within_split n asks a (subst (λ (xs : List Ask). AsksWithin n xs) e h)

pub work_pushed : (asks new : List Ask) (a : Ask) → new ≡ asks ++ a ∷ [] → asks_work new ≡ asks_work asks + ask_work a
work_pushed asks new a e = ap asks_work e ∙ sum_by_push ask_work asks a

-- one more fact, and one more equation
pub adds_one : (old new : List Ask) (F : Typing → Type 0) (a : Ask) → new ≡ old ++ a ∷ [] → ((t : Typing) → F t → Has t a) → ((t : Typing) → Has t a → F t) → Adds old F new
adds_one old new F a e to from = record {
  to = λ t h f. subst (λ (xs : List Ask). EachHas t xs) (sym e) (each_more t old a h (to t f));
  from = λ t h. let r = each_less t old a (subst (λ (xs : List Ask). EachHas t xs) e h) in (r.0, from t r.1);
}

pub adds_said : (old new : List Ask) (F G : Typing → Type 0) → ((t : Typing) → G t → F t) → ((t : Typing) → F t → G t) → Adds old F new → Adds old G new
adds_said old new F G to from adds = record {
  to = λ t h g. adds.to t h (to t g);
  from = λ t h. let r = adds.from t h in (r.0, from t r.1);
}

pub says_said : (old new : List Ask) (F G : Typing → Type 0) → ((t : Typing) → G t → F t) → ((t : Typing) → F t → G t) → (answer : Bool) → Says old F new answer → Says old G new answer
says_said old new F G to from true says = adds_said old new F G to from says
says_said old new F G to from false says = λ t g. says t (to t g)

pub adds_none : (old : List Ask) (P : Typing → ℕ → Type 0) → Adds old (λ t. (j : ℕ) → j < 0 → P t j) old
adds_none old P = record { to = λ t h f. h; from = λ t h. (h, λ j lt. absurd (omega (arith, lt))) }

up_to : (P : ℕ → Type 0) (i : ℕ) → ((j : ℕ) → j < i → P j) → P i → (j : ℕ) → j < i + 1 → P j
up_to P i below at j lt = elim (eqb_tells j i) [
  | inl e ↦ subst P (sym e.1) at
  | inr e ↦ below j (omega (arith, lt, e.1))
]

-- the same for the first so many
pub adds_more : (old mid new : List Ask) (P : Typing → ℕ → Type 0) (i : ℕ) → Adds mid (λ t. P t i) new →
    Adds old (λ t. (j : ℕ) → j < i → P t j) mid → Adds old (λ t. (j : ℕ) → j < i + 1 → P t j) new
adds_more old mid new P i one adds = record {
  to = λ t h f. one.to t (adds.to t h (λ j lt. f j (omega (arith, lt)))) (f i (omega arith));
  from = λ t h. let r = one.from t h in
      let s = adds.from t r.0 in (s.0, up_to (P t) i s.1 r.1);
}

-- lists of the types of consecutive variables
pub lists_same : (t : Typing) (first other n : ℕ) → ((j : ℕ) → j < n → t (first + j) ≡ t (other + j)) → list_at t first n ≡ list_at t other n
lists_same t first other zero h = refl
lists_same t first other (suc n) h =
    let here : t first ≡ t other = ap t (let e : first ≡ first + 0 = omega arith in e) ∙ h 0 (omega arith) ∙ ap t (let e : other + 0 ≡ other = omega arith in e) in
    let there : list_at t (first + 1) n ≡ list_at t (other + 1) n = lists_same t (first + 1) (other + 1) n (λ j lt.
    ap t (let e : first + 1 + j ≡ first + suc j = omega arith in e) ∙ h (suc j) (omega (arith, lt)) ∙ ap t (let e : other + suc j ≡ other + 1 + j = omega arith in e)) in
    λ i. here i ∷ there i

cons_same : (a b : TypeData) (as_ bs : List TypeData) → a ∷ as_ ≡ b ∷ bs → (a ≡ b) × (as_ ≡ bs)
cons_same a b as_ bs e = (cc, cc)

pub lists_each : (t : Typing) (first other n : ℕ) → list_at t first n ≡ list_at t other n → (j : ℕ) → j < n → t (first + j) ≡ t (other + j)
lists_each t first other zero e j lt = absurd (omega (arith, lt))
lists_each t first other (suc n) e zero lt =
    ap t (let k : first + 0 ≡ first = omega arith in k) ∙ (cons_same (t first) (t other) (list_at t (first + 1) n) (list_at t (other + 1) n) e).0 ∙ ap t (let k : other ≡ other + 0 = omega arith in k)
lists_each t first other (suc n) e (suc j) lt =
    ap t (let k : first + suc j ≡ first + 1 + j = omega arith in k)
    ∙ lists_each t (first + 1) (other + 1) n (cons_same (t first) (t other) (list_at t (first + 1) n) (list_at t (other + 1) n) e).1 j (omega (arith, lt))
    ∙ ap t (let k : other + 1 + j ≡ other + suc j = omega arith in k)

pub list_is : (t : Typing) (first : ℕ) (ts : List TypeData) → ((j : ℕ) → j < length ts → t (first + j) ≡ get_or ts j BoolType) → list_at t first (length ts) ≡ ts
list_is t first [] h = refl
list_is t first (x ∷ ts) h =
    let here : t first ≡ x = ap t (let e : first ≡ first + 0 = omega arith in e) ∙ h 0 (omega arith) in
    let there : list_at t (first + 1) (length ts) ≡ ts = list_is t (first + 1) ts (λ j lt.
    ap t (let e : first + 1 + j ≡ first + suc j = omega arith in e) ∙ h (suc j) (omega (arith, lt))) in
    λ i. here i ∷ there i

pub list_each : (t : Typing) (first : ℕ) (ts : List TypeData) → list_at t first (length ts) ≡ ts → (j : ℕ) → j < length ts → t (first + j) ≡ get_or ts j BoolType
list_each t first [] e j lt = absurd (omega (arith, lt))
list_each t first (x ∷ ts) e zero lt = ap t (let k : first + 0 ≡ first = omega arith in k) ∙ (cons_same (t first) x (list_at t (first + 1) (length ts)) ts e).0
list_each t first (x ∷ ts) e (suc j) lt =
    ap t (let k : first + suc j ≡ first + 1 + j = omega arith in k)
    ∙ list_each t (first + 1) ts (cons_same (t first) x (list_at t (first + 1) (length ts)) ts e).1 j (omega (arith, lt))

pub length-list_at : (t : Typing) (first n : ℕ) → length (list_at t first n) ≡ n
length-list_at t first zero = refl
length-list_at t first (suc n) = ap suc (length-list_at t (first + 1) n)

-- sizes
types_weight : (ts : List TypeData) → sum_by type_size ts + 1 ≤ types_size (types_of ts)
types_weight [] = omega arith
types_weight (t ∷ ts) = omega (arith, types_weight ts, sum_by-cons type_size t ts)

pub some_weight : (ts : List TypeData) (i : ℕ) → sum_by type_size (take i ts) + 1 ≤ types_size (types_of ts)
some_weight ts i = omega (arith, sum_by-take-le type_size ts i, types_weight ts)

pub type_size_pos : (t : TypeData) → 0 < type_size t
type_size_pos BoolType = omega arith
type_size_pos (IntType w) = omega arith
type_size_pos NumType = omega arith
type_size_pos AddressType = omega arith
type_size_pos SignerType = omega arith
type_size_pos (VectorType t) = omega arith
type_size_pos (StructType s ts) = omega arith
type_size_pos (ParamType n) = omega arith
type_size_pos (SharedType t) = omega arith
type_size_pos (MutableType t) = omega arith
type_size_pos (TupleType ts) = omega arith

-- two types made by one constructor are equal if their parts are
pub wrapped_same : (w : Wrap) (a b : TypeData) → wrapped w a ≡ wrapped w b → a ≡ b
wrapped_same Vector a b e = cc
wrapped_same Shared a b e = cc
wrapped_same Mutable a b e = cc

pub wraps_differ : (v w : Wrap) (a b : TypeData) → v ≢ w → wrapped v a ≡ wrapped w b → ⊥
wraps_differ Vector Vector a b ne e = ne refl
wraps_differ Vector Shared a b ne e = cc
wraps_differ Vector Mutable a b ne e = cc
wraps_differ Shared Vector a b ne e = cc
wraps_differ Shared Shared a b ne e = ne refl
wraps_differ Shared Mutable a b ne e = cc
wraps_differ Mutable Vector a b ne e = cc
wraps_differ Mutable Shared a b ne e = cc
wraps_differ Mutable Mutable a b ne e = ne refl

pub wrap_group : (w : Wrap) (g : Group) (a : TypeData) (ts : TypesData) → wrapped w a ≡ grouped g ts → ⊥
wrap_group Vector (Struct s) a ts e = cc
wrap_group Vector Tuple a ts e = cc
wrap_group Shared (Struct s) a ts e = cc
wrap_group Shared Tuple a ts e = cc
wrap_group Mutable (Struct s) a ts e = cc
wrap_group Mutable Tuple a ts e = cc

grouped_types : (g : Group) (ts us : TypesData) → grouped g ts ≡ grouped g us → ts ≡ us
grouped_types (Struct s) ts us e = cc
grouped_types Tuple ts us e = cc

pub grouped_same : (g : Group) (ts us : List TypeData) → grouped g (types_of ts) ≡ grouped g (types_of us) → ts ≡ us
grouped_same g ts us e = types_of_injective ts us (grouped_types g (types_of ts) (types_of us) e)
