-- The walk that gives values to the items below a number.
use Rattle.std.proofs.Common.{◌≡◌, ◌≢◌, ◌⊎◌, inl, inr, ℕ, zero, suc, ◌+◌, ◌*◌, ◌<◌, ◌≤◌, Bool, true, false, List, [], ◌∷◌, ◌++◌, length, Option, Some, None, refl, sym, ap, ◌∙◌, subst, arith, append-nil, append_assoc, length-append}
use Rattle.std.specs.Prelude.{slice_get, nat_le}
use Rattle.std.proofs.lemmas.Bool.{cases_eq, cases_lt, leb-true, leb-false, le-leb}
use Rattle.std.proofs.lemmas.List.{length_push}
use Rattle.std.proofs.lemmas.Option.{slice_get_within}
use Rattle.term_pool.specs.Pools.{IsMade, HasParts}
use Rattle.term_pool.specs.declared.node.Two.{Two}
use Rattle.term_pool.specs.declared.node.Two.TheVariants.{Binary, Pack, Field, Compare, Is, Connect, Quantify, ConsTerm, ConsTrigger, ConsFormula, ConsType}
use Rattle.term_pool.specs.declared.node.Three.{Three}
use Rattle.term_pool.specs.declared.node.Three.TheVariants.{Ternary, SetField, If, TypeStruct}
use Rattle.term_pool.specs.declared.node.Node.{Node}
use Rattle.term_pool.specs.declared.node.Node.TheVariants.{Leaf as LeafNode, One as OneNode, Two as TwoNode, Three as ThreeNode}
use Rattle.tableau.specs.Logs.{value_in, change_of}
use Rattle.tableau.specs.Marks.{outer_parts, IsOneOf, IsUnder, Itself, Below, is_at_most, HasAtMost, IsNode, IsClosed, IsLonger, IsMarked, IsPassed, IsGiven, IsTurn, IsWalk, one_unless, unmarked}
use Rattle.tableau.specs.declared.log.Change.{Change}
use Rattle.tableau.proofs.LogLemmas.{value_written, value_other}

-- ---- members

pub one_of_first : (n : ℕ) (ms ks : List ℕ) → IsOneOf n ms → IsOneOf n (ms ++ ks)
one_of_first n [] ks h = absurd h
one_of_first n (m ∷ ms) ks (inl e) = inl e
one_of_first n (m ∷ ms) ks (inr h) = inr (one_of_first n ms ks h)

pub one_of_last : (n : ℕ) (ms ks : List ℕ) → IsOneOf n ks → IsOneOf n (ms ++ ks)
one_of_last n [] ks h = h
one_of_last n (m ∷ ms) ks h = inr (one_of_last n ms ks h)

pub one_of_cases : (n : ℕ) (ms ks : List ℕ) → IsOneOf n (ms ++ ks) → IsOneOf n ms ⊎ IsOneOf n ks
one_of_cases n [] ks h = inr h
one_of_cases n (m ∷ ms) ks (inl e) = inl (inl e)
one_of_cases n (m ∷ ms) ks (inr h) = go (one_of_cases n ms ks h)
  where
    go : IsOneOf n ms ⊎ IsOneOf n ks → IsOneOf n (m ∷ ms) ⊎ IsOneOf n ks
    go (inl e) = inl (inr e)
    go (inr e) = inr e

-- ---- parts are few, and earlier

few_of_two : (h : Two) (a b : ℕ) → length (outer_parts (TwoNode h a b)) ≤ 3
few_of_two (Binary o) a b = omega arith
few_of_two Pack a b = omega arith
few_of_two (Field k) a b = omega arith
few_of_two (Compare o) a b = omega arith
few_of_two Is a b = omega arith
few_of_two (Connect o) a b = omega arith
few_of_two (Quantify o n) a b = omega arith
few_of_two ConsTerm a b = omega arith
few_of_two ConsTrigger a b = omega arith
few_of_two ConsFormula a b = omega arith
few_of_two ConsType a b = omega arith

few_of_three : (h : Three) (a b c : ℕ) → length (outer_parts (ThreeNode h a b c)) ≤ 3
few_of_three (Ternary o) a b c = omega arith
few_of_three (SetField k) a b c = omega arith
few_of_three If a b c = omega arith
few_of_three (TypeStruct x) a b c = omega arith

pub few_parts : (n : Node) → length (outer_parts n) ≤ 3
few_parts (LeafNode h) = omega arith
few_parts (OneNode h a) = omega arith
few_parts (TwoNode h a b) = few_of_two h a b
few_parts (ThreeNode h a b c) = few_of_three h a b c

of_two : (h : Two) (a b p : ℕ) → IsOneOf p (outer_parts (TwoNode h a b)) → (p ≡ a) ⊎ (p ≡ b)
of_two (Binary o) a b p (inl e) = inl e
of_two (Binary o) a b p (inr (inl e)) = inr e
of_two (Binary o) a b p (inr (inr z)) = absurd z
of_two Pack a b p (inl e) = inr e
of_two Pack a b p (inr z) = absurd z
of_two (Field k) a b p (inl e) = inr e
of_two (Field k) a b p (inr z) = absurd z
of_two (Compare o) a b p (inl e) = inl e
of_two (Compare o) a b p (inr (inl e)) = inr e
of_two (Compare o) a b p (inr (inr z)) = absurd z
of_two Is a b p (inl e) = inr e
of_two Is a b p (inr z) = absurd z
of_two (Connect o) a b p (inl e) = inl e
of_two (Connect o) a b p (inr (inl e)) = inr e
of_two (Connect o) a b p (inr (inr z)) = absurd z
of_two (Quantify o n) a b p z = absurd z
of_two ConsTerm a b p (inl e) = inl e
of_two ConsTerm a b p (inr (inl e)) = inr e
of_two ConsTerm a b p (inr (inr z)) = absurd z
of_two ConsTrigger a b p z = absurd z
of_two ConsFormula a b p (inl e) = inl e
of_two ConsFormula a b p (inr (inl e)) = inr e
of_two ConsFormula a b p (inr (inr z)) = absurd z
of_two ConsType a b p (inl e) = inl e
of_two ConsType a b p (inr (inl e)) = inr e
of_two ConsType a b p (inr (inr z)) = absurd z

of_three : (h : Three) (a b c p : ℕ) → IsOneOf p (outer_parts (ThreeNode h a b c)) → (p ≡ a) ⊎ ((p ≡ b) ⊎ (p ≡ c))
of_three (Ternary o) a b c p (inl e) = inl e
of_three (Ternary o) a b c p (inr (inl e)) = inr (inl e)
of_three (Ternary o) a b c p (inr (inr (inl e))) = inr (inr e)
of_three (Ternary o) a b c p (inr (inr (inr z))) = absurd z
of_three (SetField k) a b c p (inl e) = inr (inl e)
of_three (SetField k) a b c p (inr (inl e)) = inr (inr e)
of_three (SetField k) a b c p (inr (inr z)) = absurd z
of_three If a b c p (inl e) = inl e
of_three If a b c p (inr (inl e)) = inr (inl e)
of_three If a b c p (inr (inr (inl e))) = inr (inr e)
of_three If a b c p (inr (inr (inr z))) = absurd z
of_three (TypeStruct x) a b c p (inl e) = inl e
of_three (TypeStruct x) a b c p (inr (inl e)) = inr (inl e)
of_three (TypeStruct x) a b c p (inr (inr (inl e))) = inr (inr e)
of_three (TypeStruct x) a b c p (inr (inr (inr z))) = absurd z

pub earlier : (ns : List Node) (n : ℕ) (node : Node) (p : ℕ) → HasParts ns n node → IsOneOf p (outer_parts node) → p < n
earlier ns n (LeafNode h) p parts one = absurd one
earlier ns n (OneNode h a) p parts (inl e) = (let w = parts.earlier in omega (arith, e, w))
earlier ns n (OneNode h a) p parts (inr z) = absurd z
earlier ns n (TwoNode h a b) p parts one = go (of_two h a b p one)
  where
    go : (p ≡ a) ⊎ (p ≡ b) → p < n
    go (inl e) = (let w = parts.0.earlier in omega (arith, e, w))
    go (inr e) = (let w = parts.1.earlier in omega (arith, e, w))
earlier ns n (ThreeNode h a b c) p parts one = go (of_three h a b c p one)
  where
    go : (p ≡ a) ⊎ ((p ≡ b) ⊎ (p ≡ c)) → p < n
    go (inl e) = (let w = parts.0.earlier in omega (arith, e, w))
    go (inr (inl e)) = (let w = parts.1.earlier in omega (arith, e, w))
    go (inr (inr e)) = (let w = parts.2.earlier in omega (arith, e, w))

-- ---- values that are small enough

small_more : (v : Option ℕ) (m k : ℕ) → m ≤ k → is_at_most v m ≡ true → is_at_most v k ≡ true
small_more None m k w e = absurd (cc)
small_more (Some v) m k w e = le-leb v k (let l = leb-true v m e in omega (arith, l, w))

pub at_most_more : (cs : List Change) (n m k : ℕ) → m ≤ k → HasAtMost cs n m → HasAtMost cs n k
at_most_more cs n m k w h = small_more (value_in cs n) m k w h

small_itself : (v : Option ℕ) (m : ℕ) → v ≡ Some m → is_at_most v m ≡ true
small_itself v m e = ap (λ o. is_at_most o m) e ∙ le-leb m m (omega arith)

pub at_most_itself : (cs : List Change) (n m : ℕ) → value_in cs n ≡ Some m → HasAtMost cs n m
at_most_itself cs n m e = small_itself (value_in cs n) m e

-- the value, if there is one
pub record HasValue (cs : List Change) (n most : ℕ) : Type 0 where
  pub value : ℕ
  pub is : value_in cs n ≡ Some value
  pub small : value ≤ most

pub value_of : (cs : List Change) (n most : ℕ) → HasAtMost cs n most → HasValue cs n most
value_of cs n most h = go (value_in cs n) refl h
  where
    go : (v : Option ℕ) → value_in cs n ≡ v → is_at_most v most ≡ true → HasValue cs n most
    go None e s = absurd (cc)
    go (Some v) e s = record { value = v; is = e; small = leb-true v most s }

-- ---- one number gets a value

module _ (cs : List Change) (n value : ℕ) (none : is_at_most (value_in cs n) value ≡ false) where
  pub given : value_in (cs ++ change_of cs n value ∷ []) n ≡ Some value
  given = value_written cs (change_of cs n value)

  -- a value of another number, or the new one
  pub value_cases : (m v : ℕ) → value_in (cs ++ change_of cs n value ∷ []) m ≡ Some v → (value_in cs m ≡ Some v) ⊎ ((m ≡ n) × (v ≡ value))
  value_cases m v e = go (cases_eq n m)
    where
      go : (n ≡ m) ⊎ (n ≡ m → ⊥) → (value_in cs m ≡ Some v) ⊎ ((m ≡ n) × (v ≡ value))
      go (inl h) = inr (sym h, (let f : Some value ≡ Some v = sym given ∙ ap (value_in (cs ++ change_of cs n value ∷ [])) h ∙ e in let g : value ≡ v = cc in sym g))
      go (inr h) = inl (sym (value_other cs (change_of cs n value) m h) ∙ e)

  -- no value increases
  pub value_kept : (m most : ℕ) → HasAtMost cs m most → HasAtMost (cs ++ change_of cs n value ∷ []) m most
  value_kept m most h = go (cases_eq n m)
    where
      smaller : (v : Option ℕ) → is_at_most v value ≡ false → is_at_most v most ≡ true → value ≤ most
      smaller None f s = absurd (cc)
      smaller (Some v) f s = (let a = leb-false v value f in let b = leb-true v most s in omega (arith, a, b))

      go : (n ≡ m) ⊎ (n ≡ m → ⊥) → HasAtMost (cs ++ change_of cs n value ∷ []) m most
      go (inl e) = subst (λ k. HasAtMost (cs ++ change_of cs n value ∷ []) k most) e (at_most_more (cs ++ change_of cs n value ∷ []) n value most (smaller (value_in cs n) none (subst (λ k. HasAtMost cs k most) (sym e) h)) (at_most_itself (cs ++ change_of cs n value ∷ []) n value given))
      go (inr e) = ap (λ v. is_at_most v most) (value_other cs (change_of cs n value) m e) ∙ h

  count_other : (m : ℕ) → n ≢ m → one_unless (is_at_most (value_in (cs ++ change_of cs n value ∷ []) m) value) ≡ one_unless (is_at_most (value_in cs m) value)
  count_other m h = ap (λ v. one_unless (is_at_most v value)) (value_other cs (change_of cs n value) m h)

  same_before : (count : ℕ) → count ≤ n → unmarked (cs ++ change_of cs n value ∷ []) value count ≡ unmarked cs value count
  same_before zero w = refl
  same_before (suc k) w = let h = count_other k (λ e. omega (arith, e, w)) in let rest = same_before k (omega (arith, w)) in omega (arith, h, rest)

  -- one fewer number is without a value
  pub fewer : (count : ℕ) → n < count → unmarked (cs ++ change_of cs n value ∷ []) value count + 1 ≡ unmarked cs value count
  fewer zero w = absurd (omega arith)
  fewer (suc k) w = go (cases_eq n k) (λ h. fewer k h)
    where
      go : (n ≡ k) ⊎ (n ≡ k → ⊥) → (n < k → unmarked (cs ++ change_of cs n value ∷ []) value k + 1 ≡ unmarked cs value k) → unmarked (cs ++ change_of cs n value ∷ []) value (suc k) + 1 ≡ unmarked cs value (suc k)
      go (inl e) less =
          let has : one_unless (is_at_most (value_in (cs ++ change_of cs n value ∷ []) k) value) ≡ 0 =
          ap (λ m. one_unless (is_at_most (value_in (cs ++ change_of cs n value ∷ []) m) value)) (sym e)
          ∙ ap one_unless (at_most_itself (cs ++ change_of cs n value ∷ []) n value given) in
          let had : one_unless (is_at_most (value_in cs k) value) ≡ 1 =
          ap (λ m. one_unless (is_at_most (value_in cs m) value)) (sym e) ∙ ap one_unless none in
          let rest = same_before k (omega (arith, e)) in
          omega (arith, has, had, rest)
      go (inr e) less = let h = count_other k e in let rest = less (omega (arith, w, e)) in omega (arith, h, rest)

-- ---- the walk

module _ (ns : List Node) (top value : ℕ) (cs : List Change) where
  pub walk_begun : (ws : List ℕ) → ws ≡ top ∷ [] → top < length ns → IsClosed ns cs → IsWalk ns top value cs cs ws
  walk_begun ws e w closed = subst (IsWalk ns top value cs cs) (sym e) (record {
    longer = record { more = []; is = sym (append-nil cs) };
    nodes = closed.nodes;
    parts = λ n v node part is at one. inl (closed.parts n v node part is at one);
    marked = inr (inl refl);
    kept = λ n most h. h;
    only = λ n v h. inl h;
    under = λ n h. is_top n h;
    within = λ n h. in_pool n h;
  })
    where
      is_top : (n : ℕ) → IsOneOf n (top ∷ []) → IsUnder ns top n
      is_top n (inl f) = subst (IsUnder ns top) (sym f) Itself
      is_top n (inr z) = absurd z

      in_pool : (n : ℕ) → IsOneOf n (top ∷ []) → n < length ns
      in_pool n (inl f) = omega (arith, f, w)
      in_pool n (inr z) = absurd z

  pub walk_within : (ds : List Change) (all ws : List ℕ) (n : ℕ) → all ≡ ws ++ n ∷ [] → IsWalk ns top value cs ds all → n < length ns
  walk_within ds all ws n e walk = walk.within n (subst (IsOneOf n) (sym e) (one_of_last n ws (n ∷ []) (inl refl)))

  pub walk_done : (ds : List Change) (ws : List ℕ) → ws ≡ [] → IsWalk ns top value cs ds ws → IsMarked ns top value cs ds
  walk_done ds ws e walk = record {
    longer = walk.longer;
    closed = record { nodes = walk.nodes; parts = λ n v node part is at one. parts n v part (walk.parts n v node part is at one) };
    marked = marked walk.marked;
    kept = walk.kept;
    only = walk.only;
  }
    where
      nothing : (n : ℕ) → IsOneOf n ws → ⊥
      nothing n h = subst (IsOneOf n) e h

      parts : (n v part : ℕ) → HasAtMost ds part v ⊎ ((value ≤ v) × IsOneOf part ws) → HasAtMost ds part v
      parts n v part (inl h) = h
      parts n v part (inr h) = absurd (nothing part h.1)

      marked : HasAtMost ds top value ⊎ IsOneOf top ws → HasAtMost ds top value
      marked (inl h) = h
      marked (inr h) = absurd (nothing top h)

  module _ (ds : List Change) (ws : List ℕ) (n : ℕ) (walk : IsWalk ns top value cs ds (ws ++ n ∷ [])) where
    -- the number is skipped
    passed : is_at_most (value_in ds n) value ≡ true → IsWalk ns top value cs ds ws
    passed small = record {
      longer = walk.longer;
      nodes = walk.nodes;
      parts = λ m v node part is at one. parts v part (walk.parts m v node part is at one);
      marked = marked walk.marked;
      kept = walk.kept;
      only = walk.only;
      under = λ m h. walk.under m (one_of_first m ws (n ∷ []) h);
      within = λ m h. walk.within m (one_of_first m ws (n ∷ []) h);
    }
      where
        parts : (v part : ℕ) → HasAtMost ds part v ⊎ ((value ≤ v) × IsOneOf part (ws ++ n ∷ [])) → HasAtMost ds part v ⊎ ((value ≤ v) × IsOneOf part ws)
        parts v part (inl h) = inl h
        parts v part (inr h) = go (one_of_cases part ws (n ∷ []) h.1)
          where
            go : IsOneOf part ws ⊎ IsOneOf part (n ∷ []) → HasAtMost ds part v ⊎ ((value ≤ v) × IsOneOf part ws)
            go (inl k) = inr (h.0, k)
            go (inr (inl e)) = inl (subst (λ k. HasAtMost ds k v) (sym e) (at_most_more ds n value v h.0 small))
            go (inr (inr z)) = absurd z

        marked : HasAtMost ds top value ⊎ IsOneOf top (ws ++ n ∷ []) → HasAtMost ds top value ⊎ IsOneOf top ws
        marked (inl h) = inl h
        marked (inr h) = go (one_of_cases top ws (n ∷ []) h)
          where
            go : IsOneOf top ws ⊎ IsOneOf top (n ∷ []) → HasAtMost ds top value ⊎ IsOneOf top ws
            go (inl k) = inr k
            go (inr (inl e)) = inl (subst (λ k. HasAtMost ds k value) (sym e) small)
            go (inr (inr z)) = absurd z

    -- the number gets the value
    gets : is_at_most (value_in ds n) value ≡ false → (node : Node) → IsMade ns n node → IsWalk ns top value cs (ds ++ change_of ds n value ∷ []) (ws ++ outer_parts node)
    gets none node made = record {
      longer = record { more = walk.longer.more ++ change_of ds n value ∷ []; is = ap (λ es. es ++ change_of ds n value ∷ []) walk.longer.is ∙ append_assoc cs walk.longer.more (change_of ds n value ∷ []) };
      nodes = λ m v is. nodes m v (value_cases ds n value none m v is);
      parts = λ m v other part is at one. parts m v other part at one (value_cases ds n value none m v is);
      marked = marked walk.marked;
      kept = λ m most h. value_kept ds n value none m most (walk.kept m most h);
      only = λ m v is. only m v (value_cases ds n value none m v is);
      under = λ m h. under m (one_of_cases m ws (outer_parts node) h);
      within = λ m h. within m (one_of_cases m ws (outer_parts node) h);
    }
      where
        here : IsUnder ns top n
        here = walk.under n (one_of_last n ws (n ∷ []) (inl refl))

        inside : n < length ns
        inside = walk.within n (one_of_last n ws (n ∷ []) (inl refl))

        has : HasAtMost (ds ++ change_of ds n value ∷ []) n value
        has = at_most_itself (ds ++ change_of ds n value ∷ []) n value (given ds n value none)

        nodes : (m v : ℕ) → (value_in ds m ≡ Some v) ⊎ ((m ≡ n) × (v ≡ value)) → IsNode ns m
        nodes m v (inl h) = walk.nodes m v h
        nodes m v (inr h) = subst (IsNode ns) (sym h.0) (record { node = node; made = made })

        waits : (v part : ℕ) → HasAtMost ds part v ⊎ ((value ≤ v) × IsOneOf part (ws ++ n ∷ [])) → HasAtMost (ds ++ change_of ds n value ∷ []) part v ⊎ ((value ≤ v) × IsOneOf part (ws ++ outer_parts node))
        waits v part (inl h) = inl (value_kept ds n value none part v h)
        waits v part (inr h) = go (one_of_cases part ws (n ∷ []) h.1)
          where
            go : IsOneOf part ws ⊎ IsOneOf part (n ∷ []) → HasAtMost (ds ++ change_of ds n value ∷ []) part v ⊎ ((value ≤ v) × IsOneOf part (ws ++ outer_parts node))
            go (inl k) = inr (h.0, one_of_first part ws (outer_parts node) k)
            go (inr (inl e)) = inl (subst (λ k. HasAtMost (ds ++ change_of ds n value ∷ []) k v) (sym e) (at_most_more (ds ++ change_of ds n value ∷ []) n value v h.0 has))
            go (inr (inr z)) = absurd z

        parts : (m v : ℕ) (other : Node) (part : ℕ) → slice_get ns m ≡ Some other → IsOneOf part (outer_parts other) → (value_in ds m ≡ Some v) ⊎ ((m ≡ n) × (v ≡ value)) → HasAtMost (ds ++ change_of ds n value ∷ []) part v ⊎ ((value ≤ v) × IsOneOf part (ws ++ outer_parts node))
        parts m v other part at one (inl h) = waits v part (walk.parts m v other part h at one)
        parts m v other part at one (inr h) =
            let both : Some other ≡ Some node = sym at ∙ ap (slice_get ns) h.0 ∙ made.found in
            let same : other ≡ node = cc in
            let small : value ≤ v = (let e = h.1 in omega (arith, e)) in
            inr (small, one_of_last part ws (outer_parts node) (subst (λ o. IsOneOf part (outer_parts o)) same one))

        marked : HasAtMost ds top value ⊎ IsOneOf top (ws ++ n ∷ []) → HasAtMost (ds ++ change_of ds n value ∷ []) top value ⊎ IsOneOf top (ws ++ outer_parts node)
        marked (inl h) = inl (value_kept ds n value none top value h)
        marked (inr h) = go (one_of_cases top ws (n ∷ []) h)
          where
            go : IsOneOf top ws ⊎ IsOneOf top (n ∷ []) → HasAtMost (ds ++ change_of ds n value ∷ []) top value ⊎ IsOneOf top (ws ++ outer_parts node)
            go (inl k) = inr (one_of_first top ws (outer_parts node) k)
            go (inr (inl e)) = inl (subst (λ k. HasAtMost (ds ++ change_of ds n value ∷ []) k value) (sym e) has)
            go (inr (inr z)) = absurd z

        only : (m v : ℕ) → (value_in ds m ≡ Some v) ⊎ ((m ≡ n) × (v ≡ value)) → (value_in cs m ≡ Some v) ⊎ ((v ≡ value) × IsUnder ns top m)
        only m v (inl h) = walk.only m v h
        only m v (inr h) = inr (h.1, subst (IsUnder ns top) (sym h.0) here)

        under : (m : ℕ) → IsOneOf m ws ⊎ IsOneOf m (outer_parts node) → IsUnder ns top m
        under m (inl h) = walk.under m (one_of_first m ws (n ∷ []) h)
        under m (inr h) = Below n node m here made h

        within : (m : ℕ) → IsOneOf m ws ⊎ IsOneOf m (outer_parts node) → m < length ns
        within m (inl h) = walk.within m (one_of_first m ws (n ∷ []) h)
        within m (inr h) = (let w = earlier ns n node m made.parts h in let i = inside in omega (arith, w, i))

  pub walk_next : (ds es : List Change) (all ws us : List ℕ) (n : ℕ) → all ≡ ws ++ n ∷ [] → IsWalk ns top value cs ds all → IsTurn ns value n ds ws es us → IsWalk ns top value cs es us
  walk_next ds es all ws us n e walk (inl turn) =
      subst (λ xs. IsWalk ns top value cs xs us) (sym turn.same) (subst (IsWalk ns top value cs ds) (sym turn.waiting) (passed ds ws n (subst (IsWalk ns top value cs ds) e walk) turn.small))
  walk_next ds es all ws us n e walk (inr turn) =
      subst (λ xs. IsWalk ns top value cs xs us) (sym turn.is) (subst (IsWalk ns top value cs (ds ++ change_of ds n value ∷ [])) (sym turn.waiting) (gets ds ws n (subst (IsWalk ns top value cs ds) e walk) turn.none turn.node turn.made))

-- the measure of the walk decreases
pub walk_falls : (ns : List Node) (value n : ℕ) (ds es : List Change) (all ws us : List ℕ) → all ≡ ws ++ n ∷ [] → n < length ns → IsTurn ns value n ds ws es us → 4 * unmarked es value (length ns) + length us < 4 * unmarked ds value (length ns) + length all
walk_falls ns value n ds es all ws us e w (inl turn) =
    let a : length all ≡ length ws + 1 = ap length e ∙ length_push ws n in
    let b : length us ≡ length ws = ap length turn.waiting in
    let c : unmarked es value (length ns) ≡ unmarked ds value (length ns) = ap (λ xs. unmarked xs value (length ns)) turn.same in
    omega (arith, a, b, c)
walk_falls ns value n ds es all ws us e w (inr turn) =
    let a : length all ≡ length ws + 1 = ap length e ∙ length_push ws n in
    let b : length us ≡ length ws + length (outer_parts turn.node) = ap length turn.waiting ∙ length-append ws (outer_parts turn.node) in
    let c : unmarked es value (length ns) ≡ unmarked (ds ++ change_of ds n value ∷ []) value (length ns) = ap (λ xs. unmarked xs value (length ns)) turn.is in
    let d = fewer ds n value turn.none (length ns) w in
    let few = few_parts turn.node in
    omega (arith, a, b, c, d, few)
