-- The types of a pool do not change as it grows, and each type is made of those before it.
use Rattle.std.proofs.Common.{◌≡◌, ℕ, zero, suc, ◌+◌, ◌<◌, List, [], ◌∷◌, ◌++◌, length, get_or, map, All, refl, sym, ◌∙◌, subst, arith, length-append, append_assoc, append-nil, add-zero, zero-add, Some}
use Rattle.std.specs.Prelude.{slice_get}
use Rattle.std.proofs.lemmas.Option.{get_or_from_slice_get, slice_get_within}
use Rattle.std.proofs.lemmas.List.{get_or_append_left}
use Rattle.std.proofs.Math.Seq.{get_or-append_seam}
use Rattle.std.proofs.lemmas.List.Elements.{All-head, All-tail}
use Rattle.base.specs.TypeData.{TypeData, StructType, TupleType, NoTypes, types_of}
use Rattle.typing_rules.specs.Sorts.{made}
use Rattle.typing_rules.specs.declared.type_pool.PoolType.{PoolType}
use Rattle.typing_rules.specs.declared.type_pool.PoolType.TheVariants.{Plain, Made, Struct, Tuple}
use Rattle.typing_rules.specs.Pools.{type_at, type_of, types_in, types, IsBelow, Grows}

at-append : (ts more : List TypeData) (i : ℕ) → i < length ts → type_at (ts ++ more) i ≡ type_at ts i
at-append ts more i h = get_or_append_left ts more (TupleType NoTypes) i h

map_at-append : (ts more : List TypeData) (xs : List ℕ) → All (λ x. x < length ts) xs → map (type_at (ts ++ more)) xs ≡ map (type_at ts) xs
map_at-append ts more [] h = refl
map_at-append ts more (x ∷ xs) h = λ i. at-append ts more x (All-head (λ x. x < length ts) x xs h) i ∷ map_at-append ts more xs (All-tail (λ x. x < length ts) x xs h) i

-- more types at the end do not change the type of an entry
type_of-append : (ts more : List TypeData) (n : PoolType) → IsBelow (length ts) n → type_of (ts ++ more) n ≡ type_of ts n
type_of-append ts more (Plain p) h = refl
type_of-append ts more (Made wrap a) h = λ i. made wrap (at-append ts more a h i)
type_of-append ts more (Struct s xs) h = λ i. StructType s (types_of (map_at-append ts more xs h i))
type_of-append ts more (Tuple xs) h = λ i. TupleType (types_of (map_at-append ts more xs h i))

types_in-push : (done : List TypeData) (ns : List PoolType) (n : PoolType) → types_in done (ns ++ n ∷ []) ≡ types_in done ns ++ type_of (types_in done ns) n ∷ []
types_in-push done [] n = refl
types_in-push done (m ∷ ns) n = types_in-push (done ++ type_of done m ∷ []) ns n

-- one more entry
pub types-push : (ns : List PoolType) (n : PoolType) → types (ns ++ n ∷ []) ≡ types ns ++ type_of (types ns) n ∷ []
types-push ns n = types_in-push [] ns n

types_in-grows : (done : List TypeData) (ns : List PoolType) → Grows done (types_in done ns)
types_in-grows done [] = ([], sym (append-nil done))
types_in-grows done (n ∷ ns) =
    let rest = types_in-grows (done ++ type_of done n ∷ []) ns in
    (type_of done n ∷ rest.0, rest.1 ∙ append_assoc done (type_of done n ∷ []) rest.0)

at-types_in : (done : List TypeData) (ns : List PoolType) (i : ℕ) (d : PoolType) → i < length ns → IsBelow (length done + i) (get_or ns i d) → type_at (types_in done ns) (length done + i) ≡ type_of (types_in done ns) (get_or ns i d)
at-types_in done [] i d h b = absurd (omega arith)
at-types_in done (n ∷ ns) zero d h b =
    let one = type_of done n in
    let rest = types_in-grows (done ++ one ∷ []) ns in
    let same : types_in (done ++ one ∷ []) ns ≡ done ++ one ∷ rest.0 = rest.1 ∙ append_assoc done (one ∷ []) rest.0 in
    let P : List TypeData → Type 0 = λ xs. type_at xs (length done + 0) ≡ type_of xs n in
    let below : IsBelow (length done) n = rw (← add-zero (length done)) b in
    subst P (sym same) (rw add-zero (get_or-append_seam done one rest.0 (TupleType NoTypes)) ∙ sym (type_of-append done (one ∷ rest.0) n below))
at-types_in done (n ∷ ns) (suc i) d h b =
    let entry = get_or ns i d in
    let one = type_of done n in
    let variable : length (done ++ one ∷ []) + i ≡ length done + suc i = omega (arith, length-append done (one ∷ [])) in
    let P : ℕ → Type 0 = λ k. IsBelow k entry → type_at (types_in (done ++ one ∷ []) ns) k ≡ type_of (types_in (done ++ one ∷ []) ns) entry in
    subst P variable (at-types_in (done ++ one ∷ []) ns i d (omega arith)) b

at-types : (ns : List PoolType) (i : ℕ) (d : PoolType) → i < length ns → IsBelow i (get_or ns i d) → type_at (types ns) i ≡ type_of (types ns) (get_or ns i d)
at-types ns i d h b =
    let P : ℕ → Type 0 = λ k. IsBelow k (get_or ns i d) → type_at (types ns) k ≡ type_of (types ns) (get_or ns i d) in
    subst P (zero-add i) (at-types_in [] ns i d h) b

-- the type of the entry with this number
pub type_read : (ns : List PoolType) (i : ℕ) (n : PoolType) → slice_get ns i ≡ Some n → IsBelow i n → type_at (types ns) i ≡ type_of (types ns) n
type_read ns i n e b =
    let same : get_or ns i n ≡ n = get_or_from_slice_get ns i n n e in
    at-types ns i n (slice_get_within ns i n e) (rw same b) ∙ (λ k. type_of (types ns) (same k))
