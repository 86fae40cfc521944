-- Written types with type variables substituted for type parameters.
use Rattle.std.proofs.Common.{◌≡◌, ℕ, zero, suc, ◌+◌, ◌<◌, ◌≤◌, ◌++◌, List, [], ◌∷◌, length, map, take, get_or, refl, sym, ap, ◌∙◌, arith}
use Rattle.std.proofs.lemmas.List.{take_more, map-append}
use Rattle.std.proofs.Math.Seq.{take-length}
use Rattle.base.specs.declared.types.StructId.{StructId}
use Rattle.base.specs.TypeData.{TypeData, StructType, TupleType, TypesData, MoreTypes, types_of}
use Rattle.unification.specs.Slots.{Typing, value, list_at, TermWithin}
use Rattle.unification.specs.Instances.{instance, instances}
use Rattle.unification.specs.Terms.{AllWithin}
use Rattle.unification.specs.declared.type_variables.slots.Term.{Term}
use Rattle.unification.specs.declared.type_variables.slots.Term.TheVariants.{Variable, Closed, Made, Grouped}

pub instances_of : (s : ℕ → TypeData) (ts : List TypeData) → instances s (types_of ts) ≡ types_of (map (instance s) ts)
instances_of s [] = refl
instances_of s (t ∷ ts) = ap (λ (us : TypesData). MoreTypes (instance s t) us) (instances_of s ts)

pub term_more : (n m : ℕ) (x : Term) → n ≤ m → TermWithin n x → TermWithin m x
term_more n m (Variable q) le h = omega (arith, le, h)
term_more n m (Closed of) le h = tt
term_more n m (Made w q) le h = omega (arith, le, h)
term_more n m (Grouped g first k) le h = omega (arith, le, h)

pub all_more : (n m : ℕ) (xs : List Term) → n ≤ m → AllWithin n xs → AllWithin m xs
all_more n m [] le h = tt
all_more n m (x ∷ xs) le h = (term_more n m x le h.0, all_more n m xs le h.1)

pub all_push : (n : ℕ) (xs : List Term) (x : Term) → AllWithin n xs → TermWithin n x → AllWithin n (xs ++ x ∷ [])
all_push n [] x h g = (g, tt)
all_push n (y ∷ xs) x h g = (h.0, all_push n xs x h.1 g)

list_at_next : (t : Typing) (first n : ℕ) → list_at t first (suc n) ≡ list_at t first n ++ t (first + n) ∷ []
list_at_next t first zero = ap (λ (q : ℕ). t q ∷ []) (let e : first ≡ first + 0 = omega arith in e)
list_at_next t first (suc n) =
    ap (λ (us : List TypeData). t first ∷ us) (list_at_next t (first + 1) n ∙ ap (λ (q : ℕ). list_at t (first + 1) n ++ t q ∷ []) (let e : first + 1 + n ≡ first + suc n = omega arith in e))

pub list_at_more : (t : Typing) (first n : ℕ) → list_at t first (n + 1) ≡ list_at t first n ++ t (first + n) ∷ []
list_at_more t first n = ap (list_at t first) (let e : n + 1 ≡ suc n = omega arith in e) ∙ list_at_next t first n

pub map_more : {X : Type 0} (f : X → TypeData) (xs : List X) (i : ℕ) (x : X) → i < length xs → x ≡ get_or xs i x → map f (take (i + 1) xs) ≡ map f (take i xs) ++ f x ∷ []
map_more f xs i x lt e = ap (map f) (take_more xs i x lt) ∙ map-append f (take i xs) (get_or xs i x ∷ []) ∙ ap (λ y. map f (take i xs) ++ f y ∷ []) (sym e)

pub all_taken : {X : Type 0} (xs : List X) (i : ℕ) → i ≤ length xs → length xs ≤ i → take i xs ≡ xs
all_taken xs i le ge = ap (λ (n : ℕ). take n xs) (let e : i ≡ length xs = omega (arith, le, ge) in e) ∙ take-length xs

-- one more variable has the type of its term
pub have_more : (t : Typing) (first i : ℕ) (terms : List Term) (x : Term) → i < length terms → x ≡ get_or terms i x →
    list_at t first i ≡ map (value t) (take i terms) → t (first + i) ≡ value t x → list_at t first (i + 1) ≡ map (value t) (take (i + 1) terms)
have_more t first i terms x lt e have has = list_at_more t first i ∙ (λ k. have k ++ has k ∷ []) ∙ sym (map_more (value t) terms i x lt e)

-- one more term has the written type
pub are_more : (t : Typing) (s : ℕ → TypeData) (terms new : List Term) (x : Term) (parts : List TypeData) (i : ℕ) (part : TypeData) → i < length parts → part ≡ get_or parts i part → new ≡ terms ++ x ∷ [] →
    map (value t) terms ≡ map (instance s) (take i parts) → value t x ≡ instance s part → map (value t) new ≡ map (instance s) (take (i + 1) parts)
are_more t s terms new x parts i part lt e pushed are is =
    ap (map (value t)) pushed ∙ map-append (value t) terms (x ∷ []) ∙ (λ k. are k ++ is k ∷ []) ∙ sym (map_more (instance s) parts i part lt e)

pub all_at : (n : ℕ) (xs : List Term) (i : ℕ) (d : Term) → i < length xs → AllWithin n xs → TermWithin n (get_or xs i d)
all_at n [] i d lt h = absurd (omega (arith, lt))
all_at n (x ∷ xs) zero d lt h = h.0
all_at n (x ∷ xs) (suc i) d lt h = all_at n xs i d (omega (arith, lt)) h.1

-- a struct or a tuple of which no part changes
pub struct_instance : (s : ℕ → TypeData) (id : StructId) (ts : List TypeData) (of : TypeData) → of ≡ StructType id (types_of ts) → map (instance s) ts ≡ ts → instance s of ≡ of
struct_instance s id ts of e same = ap (instance s) e ∙ ap (StructType id) (instances_of s ts ∙ ap types_of same) ∙ sym e

pub tuple_instance : (s : ℕ → TypeData) (ts : List TypeData) (of : TypeData) → of ≡ TupleType (types_of ts) → map (instance s) ts ≡ ts → instance s of ≡ of
tuple_instance s ts of e same = ap (instance s) e ∙ ap TupleType (instances_of s ts ∙ ap types_of same) ∙ sym e

-- a struct or a tuple whose parts are the types of terms
pub struct_is : (s : ℕ → TypeData) (id : StructId) (ts us : List TypeData) (of : TypeData) → of ≡ StructType id (types_of ts) → us ≡ map (instance s) ts → StructType id (types_of us) ≡ instance s of
struct_is s id ts us of e are = ap (λ (xs : List TypeData). StructType id (types_of xs)) are ∙ ap (StructType id) (sym (instances_of s ts)) ∙ ap (instance s) (sym e)

pub tuple_is : (s : ℕ → TypeData) (ts us : List TypeData) (of : TypeData) → of ≡ TupleType (types_of ts) → us ≡ map (instance s) ts → TupleType (types_of us) ≡ instance s of
tuple_is s ts us of e are = ap (λ (xs : List TypeData). TupleType (types_of xs)) are ∙ ap TupleType (sym (instances_of s ts)) ∙ ap (instance s) (sym e)

-- one more variable has the written type
pub types_more : (t : Typing) (first i : ℕ) (types : List TypeData) (x : TypeData) → i < length types → x ≡ get_or types i x →
    list_at t first i ≡ take i types → t (first + i) ≡ x → list_at t first (i + 1) ≡ take (i + 1) types
types_more t first i types x lt e have has = list_at_more t first i ∙ (λ k. have k ++ has k ∷ []) ∙ ap (λ y. take i types ++ y ∷ []) e ∙ sym (take_more types i x lt)
