-- Types in a pool keep their numbers.
use Rattle.std.proofs.Common.{◌≡◌, ℕ, ◌+◌, ◌<◌, ◌≤◌, List, [], ◌∷◌, ◌++◌, length, length-append, map, All, take, get_or, refl, sym, ap, subst, ◌∙◌, inl, inr, arith, Ok, Err}
use Rattle.std.specs.Prelude.{Result, IfOk, OnOk}
use Rattle.std.proofs.lemmas.Bool.Decides.{eqb_tells}
use Rattle.std.proofs.lemmas.List.{get_or_push, get_or_append_left, map-append, take_more}
use Rattle.std.proofs.lemmas.List.Elements.{All-head, All-tail}
use Rattle.base.specs.TypeData.{TypeData, TupleType, NoTypes}
use Rattle.typing_rules.specs.declared.type_pool.PoolType.{PoolType}
use Rattle.typing_rules.specs.Pools.{type_at, type_of, types_in, types}
use Rattle.unification.specs.Numbers.{Keeps}

length-types_in : (done : List TypeData) (es : List PoolType) → length (types_in done es) ≡ length done + length es
length-types_in done [] = omega arith
length-types_in done (e ∷ es) =
    let h = length-types_in (done ++ type_of done e ∷ []) es in
    let k = length-append done (type_of done e ∷ []) in
    omega (arith, h, k)

length-types : (es : List PoolType) → length (types es) ≡ length es
length-types es = let h = length-types_in [] es in omega (arith, h)

pub keeps_self : (a : List PoolType) → Keeps a a
keeps_self a = record { longer = omega arith; same = λ n lt. refl }

pub keeps_then : {a b c : List PoolType} → Keeps a b → Keeps b c → Keeps a c
keeps_then p q = record {
  longer = (let a = p.longer in let b = q.longer in omega (arith, a, b));
  same = λ n lt. q.same n (let a = p.longer in omega (arith, lt, a)) ∙ p.same n lt;
}

-- one more entry
pub keeps_add : (old new : List PoolType) (e : PoolType) → new ≡ old ++ e ∷ [] → types new ≡ types old ++ type_of (types old) e ∷ [] → Keeps old new
keeps_add old new e is are = record {
  longer = (let a = ap length is in let b = length-append old (e ∷ []) in omega (arith, a, b));
  same = λ n lt. ap (λ (ts : List TypeData). type_at ts n) are ∙
      get_or_append_left (types old) (type_of (types old) e ∷ []) (TupleType NoTypes) n (subst (λ (k : ℕ). n < k) (sym (length-types old)) lt);
}

pub added_within : (old new : List PoolType) (e : PoolType) (n : ℕ) → n ≡ length old → new ≡ old ++ e ∷ [] → n < length new
added_within old new e n at is = let a = ap length is in let b = length-append old (e ∷ []) in omega (arith, a, b, at)

pub added_type : (old new : List PoolType) (e : PoolType) (n : ℕ) → n ≡ length old → types new ≡ types old ++ type_of (types old) e ∷ [] → type_at (types new) n ≡ type_of (types old) e
added_type old new e n at are = ap (λ (ts : List TypeData). type_at ts n) are ∙ get_or_push (types old) (type_of (types old) e) (TupleType NoTypes) n (length-types old ∙ sym at)

-- ---- numbers of several types

pub map_kept : {old new : List PoolType} → Keeps old new → (ns : List ℕ) → All (λ n. n < length old) ns → map (type_at (types new)) ns ≡ map (type_at (types old)) ns
map_kept k [] h = refl
map_kept {old} k (n ∷ ns) h = λ i. k.same n (All-head (λ x. x < length old) n ns h) i ∷ map_kept k ns (All-tail (λ x. x < length old) n ns h) i

pub all_below : (a b : ℕ) (ns : List ℕ) → a ≤ b → All (λ n. n < a) ns → All (λ n. n < b) ns
all_below a b ns le h = λ k d lt. let x = h k d lt in omega (arith, x, le)

pub none_below : (a : ℕ) → All (λ n. n < a) []
none_below a = λ k d lt. absurd (omega (arith, lt))

pub all_push : (a : ℕ) (ns : List ℕ) (n : ℕ) → All (λ x. x < a) ns → n < a → All (λ x. x < a) (ns ++ n ∷ [])
all_push a ns n h lt = λ k d lk. elim (eqb_tells k (length ns)) [
  | inl e ↦ subst (λ (x : ℕ). x < a) (sym (get_or_push ns n d k (sym e.1))) lt
  | inr e ↦ (let less : k < length ns = (let b = length-append ns (n ∷ []) in omega (arith, lk, b, e.1)) in
      subst (λ (x : ℕ). x < a) (sym (get_or_append_left ns (n ∷ []) d k less)) (h k d less))
]

-- the numbers of one more type
pub types_more : (old mid : List PoolType) (ns more : List ℕ) (n i : ℕ) (parts : List TypeData) (of : TypeData) → Keeps old mid → All (λ x. x < length old) ns → more ≡ ns ++ n ∷ [] →
    i < length parts → of ≡ get_or parts i of → map (type_at (types old)) ns ≡ take i parts → type_at (types mid) n ≡ of → map (type_at (types mid)) more ≡ take (i + 1) parts
types_more old mid ns more n i parts of k all is lt at before e =
    ap (map (type_at (types mid))) is ∙ map-append (type_at (types mid)) ns (n ∷ []) ∙ ap (λ (ts : List TypeData). ts ++ type_at (types mid) n ∷ []) (map_kept k ns all ∙ before)
    ∙ ap (λ (t : TypeData). take i parts ++ t ∷ []) (e ∙ at) ∙ sym (take_more parts i of lt)

-- ---- what a call that adds an entry returns

pub ok_keeps : {E : Type 0} (r : Result ℕ E) (old new : List PoolType) (e : PoolType) → OnOk r (new ≡ old ++ e ∷ []) → OnOk r (types new ≡ types old ++ type_of (types old) e ∷ []) → IfOk r (λ n. Keeps old new)
ok_keeps (Ok n) old new e is are = keeps_add old new e is are
ok_keeps (Err x) old new e is are = tt

pub ok_type : {E : Type 0} (r : Result ℕ E) (old new : List PoolType) (e : PoolType) (of : TypeData) → type_of (types old) e ≡ of → IfOk r (λ n. n ≡ length old) →
    OnOk r (types new ≡ types old ++ type_of (types old) e ∷ []) → IfOk r (λ n. type_at (types new) n ≡ of)
ok_type (Ok n) old new e of is at are = added_type old new e n at are ∙ is
ok_type (Err x) old new e of is at are = tt
