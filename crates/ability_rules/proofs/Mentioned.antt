-- The type parameters that occur in the types of a pool.
use Rattle.std.proofs.Common.{◌≡◌, ◌⊎◌, inl, inr, ℕ, zero, suc, ◌<◌, true, List, [], ◌∷◌, length, map, get_or, refl, sym, ap, subst, arith}
use Rattle.std.specs.Prelude.{Contains}
use Rattle.std.proofs.lemmas.List.Elements.{All-contains, Contains-append_right, Contains-append_cases}
use Rattle.base.specs.TypeData.{TypeData, types_of}
use Rattle.typing_rules.specs.declared.sort.Wrap.{Wrap}
use Rattle.typing_rules.specs.declared.sort.Wrap.TheVariants.{Vector, Shared, Mutable}
use Rattle.typing_rules.specs.Sorts.{made}
use Rattle.typing_rules.specs.Calls.{Mentions, MentionedIn, is_wrapped}
use Rattle.typing_rules.specs.Pools.{type_at, type_of, IsBelow}
use Rattle.typing_rules.specs.declared.type_pool.PlainType.{PlainType}
use Rattle.typing_rules.specs.declared.type_pool.PlainType.TheVariants.{Bool as bool_type, Int, Num, Address, Signer, Param}
use Rattle.typing_rules.specs.declared.type_pool.PoolType.{PoolType}
use Rattle.typing_rules.specs.declared.type_pool.PoolType.TheVariants.{Plain, Made, Struct, Tuple}
use Rattle.ability_rules.proofs.Shapes.{IsPart}

one_of : (n m : ℕ) → Contains (n ∷ []) m → m ≡ n
one_of n m c = go c.0 c.1 c.2
  where
    go : (k : ℕ) → k < length (n ∷ []) → get_or (n ∷ []) k m ≡ m → m ≡ n
    go zero b s = sym s
    go (suc k) b s = absurd (omega (arith, b))

-- a part comes before the type
pub part_below : (n m : ℕ) (e : PoolType) → IsBelow n e → IsPart e m → m < n
part_below n m (Plain p) below is = absurd is
part_below n m (Made wrap k) below is = let s = one_of k m is in omega (arith, s, below)
part_below n m (Struct id ks) below is = All-contains (λ k. k < n) ks m below is
part_below n m (Tuple ks) below is = All-contains (λ k. k < n) ks m below is

mentions_made : (k : ℕ) (wrap : Wrap) (t : TypeData) → Mentions k t → Mentions k (made wrap t)
mentions_made k Vector t h = h
mentions_made k Shared t h = h
mentions_made k Mutable t h = h

made_mentions : (k : ℕ) (wrap : Wrap) (t : TypeData) → Mentions k (made wrap t) → Mentions k t
made_mentions k Vector t h = h
made_mentions k Shared t h = h
made_mentions k Mutable t h = h

module _ (ts : List TypeData) where
  mentioned_there : (k : ℕ) (ms : List ℕ) (m : ℕ) → Contains ms m → Mentions k (type_at ts m) → MentionedIn k (types_of (map (type_at ts) ms))
  mentioned_there k [] m c h = absurd (let b = c.1 in omega (arith, b))
  mentioned_there k (x ∷ ms) m c h = elim (Contains-append_cases (x ∷ []) ms m c) [
    | inl here ↦ inl (subst (λ (n : ℕ). Mentions k (type_at ts n)) (one_of x m here) h)
    | inr more ↦ inr (mentioned_there k ms m more h)
  ]

  mentioned_back : (k : ℕ) (ms : List ℕ) → MentionedIn k (types_of (map (type_at ts) ms)) → (m : ℕ) × Contains ms m × Mentions k (type_at ts m)
  mentioned_back k [] h = absurd h
  mentioned_back k (x ∷ ms) (inl here) = (x, (0, omega arith, refl), here)
  mentioned_back k (x ∷ ms) (inr more) = (let r = mentioned_back k ms more in (r.0, Contains-append_right (x ∷ []) ms r.0 r.1, r.2))

  -- what occurs in a part occurs in the type
  pub mentions_there : (k m : ℕ) (e : PoolType) → IsPart e m → Mentions k (type_at ts m) → Mentions k (type_of ts e)
  mentions_there k m (Plain p) is h = absurd is
  mentions_there k m (Made wrap n) is h = mentions_made k wrap (type_at ts n) (subst (λ (x : ℕ). Mentions k (type_at ts x)) (one_of n m is) h)
  mentions_there k m (Struct id ns) is h = mentioned_there k ns m is h
  mentions_there k m (Tuple ns) is h = mentioned_there k ns m is h

  plain_back : (k : ℕ) (p : PlainType) → Mentions k (type_of ts (Plain p)) → Plain p ≡ Plain (Param k)
  plain_back k bool_type h = absurd h
  plain_back k (Int w) h = absurd h
  plain_back k Num h = absurd h
  plain_back k Address h = absurd h
  plain_back k Signer h = absurd h
  plain_back k (Param n) h = ap (λ (x : ℕ). Plain (Param x)) (sym h)

  -- what occurs in a type is the whole type, or occurs in a part
  pub mentions_back : (k : ℕ) (e : PoolType) → Mentions k (type_of ts e) → (e ≡ Plain (Param k)) ⊎ ((m : ℕ) × IsPart e m × Mentions k (type_at ts m))
  mentions_back k (Plain p) h = inl (plain_back k p h)
  mentions_back k (Made wrap n) h = inr (n, (0, omega arith, refl), made_mentions k wrap (type_at ts n) h)
  mentions_back k (Struct id ns) h = inr (mentioned_back k ns h)
  mentions_back k (Tuple ns) h = inr (mentioned_back k ns h)

  made_wrapped : (wrap : Wrap) (t : TypeData) → is_wrapped (made wrap t) ≡ true
  made_wrapped Vector t = refl
  made_wrapped Shared t = refl
  made_wrapped Mutable t = refl

  -- a type with parts is not just a type parameter
  pub wrapped_part : (m : ℕ) (e : PoolType) → IsPart e m → is_wrapped (type_of ts e) ≡ true
  wrapped_part m (Plain p) is = absurd is
  wrapped_part m (Made wrap n) is = made_wrapped wrap (type_at ts n)
  wrapped_part m (Struct id ns) is = refl
  wrapped_part m (Tuple ns) is = refl
