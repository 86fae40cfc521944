-- Marks: the numbers that are marked later, and that exactly the needed nodes are marked.
use Rattle.std.proofs.Common.{◌≡◌, ◌≢◌, ◌⊎◌, inl, inr, ℕ, ◌+◌, ◌<◌, ◌≤◌, Bool, true, false, List, [], ◌∷◌, ◌++◌, length, take, get_or, set, replicate, Some, refl, sym, ap, ◌∙◌, subst, arith, get_or-set_same, get_or-set_other}
use Rattle.std.specs.Prelude.{slice_get, slice_index_or}
use Rattle.std.specs.List.{Contains, flat_map}
use Rattle.std.proofs.lemmas.List.{take_more, flat_map_more, get_or_past, get_or-replicate, length-set, length-replicate}
use Rattle.std.proofs.lemmas.List.Elements.{Contains-append_left, Contains-append_right, Contains-append_cases}
use Rattle.std.proofs.lemmas.Option.{slice_get_past}
use Rattle.std.proofs.lemmas.Bool.{cases_eq, cases_lt}
use Rattle.term_pool.specs.Pools.{HasParts, IsMade}
use Rattle.term_pool.specs.declared.node.Node.{Node}
use Rattle.term_pool.specs.declared.node.Node.TheVariants.{Leaf as LeafNode, One as OneNode, Two as TwoNode, Three as ThreeNode}
use Rattle.certificate_text.specs.Marks.{parts_of, parts_in, parts_at, IsMarked, MarksAlso, IsNeeded, AsNamed, AsPart, AreInside, AreNeeded}
use Rattle.certificate_text.proofs.ListLemmas.{at_head, in_none, in_head_or_tail}

-- ---- marks that are set one after another

pub none_more : (ms : List Bool) → MarksAlso ms ms []
none_more ms = record { len = refl; marked = λ i w. (λ h. inl h, λ h. elim h [ inl a ↦ a | inr b ↦ absurd (in_none i b) ]) }

pub past_all : (ms : List Bool) (n : ℕ) → length ms ≤ n → MarksAlso ms ms (n ∷ [])
past_all ms n past = record { len = refl; marked = λ i w. (λ h. inl h, λ h. elim h [ inl a ↦ a | inr b ↦ other i w (in_head_or_tail n [] i b) ]) }
  where
    other : (i : ℕ) → i < length ms → (n ≡ i) ⊎ Contains [] i → IsMarked ms i
    other i w (inl e) = absurd (omega (arith, e, w, past))
    other i w (inr h) = absurd (in_none i h)

pub one_more : (ms : List Bool) (n : ℕ) → n < length ms → MarksAlso ms (set ms n true) (n ∷ [])
one_more ms n within = record { len = length-set ms n true; marked = λ i w. (λ h. before i h (cases_eq i n), λ h. after i h (cases_eq i n)) }
  where
    before : (i : ℕ) → IsMarked (set ms n true) i → (i ≡ n) ⊎ (i ≢ n) → IsMarked ms i ⊎ Contains (n ∷ []) i
    before i h (inl e) = inr (subst (Contains (n ∷ [])) (sym e) (at_head n []))
    before i h (inr ne) = inl (sym (get_or-set_other ms n i true false ne) ∙ h)

    after : (i : ℕ) → IsMarked ms i ⊎ Contains (n ∷ []) i → (i ≡ n) ⊎ (i ≢ n) → IsMarked (set ms n true) i
    after i h (inl e) = ap (λ k. get_or (set ms n true) k false) e ∙ get_or-set_same ms n true false within
    after i (inl h) (inr ne) = get_or-set_other ms n i true false ne ∙ h
    after i (inr h) (inr ne) = elim (in_head_or_tail n [] i h) [ inl e ↦ absurd (ne (sym e)) | inr b ↦ absurd (in_none i b) ]

pub marks_then : (ms ns ks : List Bool) (xs ys : List ℕ) → MarksAlso ms ns xs → MarksAlso ns ks ys → MarksAlso ms ks (xs ++ ys)
marks_then ms ns ks xs ys a b = record {
  len = b.len ∙ a.len;
  marked = λ i w. (
      let v : i < length ns = omega (arith, w, a.len) in (
        λ h. before i (a.marked i w).0 ((b.marked i v).0 h),
        λ h. after i (a.marked i w).1 (b.marked i v).1 h,
      ));
}
  where
    before : (i : ℕ) → (IsMarked ns i → IsMarked ms i ⊎ Contains xs i) → IsMarked ns i ⊎ Contains ys i → IsMarked ms i ⊎ Contains (xs ++ ys) i
    before i back (inl h) = elim (back h) [ inl m ↦ inl m | inr c ↦ inr (Contains-append_left xs ys i c) ]
    before i back (inr h) = inr (Contains-append_right xs ys i h)

    after : (i : ℕ) → (IsMarked ms i ⊎ Contains xs i → IsMarked ns i) → (IsMarked ns i ⊎ Contains ys i → IsMarked ks i) → IsMarked ms i ⊎ Contains (xs ++ ys) i → IsMarked ks i
    after i first second (inl h) = second (inl (first (inl h)))
    after i first second (inr h) = elim (Contains-append_cases xs ys i h) [ inl c ↦ second (inl (first (inr c))) | inr c ↦ second (inr c) ]

-- a loop that marks numbers, and one that marks the numbers that each element names
pub numbers_more : (ms ns ks : List Bool) (xs : List ℕ) (i x : ℕ) → i < length xs → x ≡ get_or xs i 0 → MarksAlso ms ns (take i xs) → MarksAlso ns ks (x ∷ []) → MarksAlso ms ks (take (i + 1) xs)
numbers_more ms ns ks xs i x w e a b =
    let all : MarksAlso ms ks (take i xs ++ x ∷ []) = marks_then ms ns ks (take i xs) (x ∷ []) a b in
    subst (MarksAlso ms ks) (ap (λ y. take i xs ++ y ∷ []) e ∙ sym (take_more xs i 0 w)) all

pub names_more : {X : Type 0} (f : X → List ℕ) (ms ns ks : List Bool) (xs : List X) (i : ℕ) (x : X) → i < length xs → x ≡ get_or xs i x → MarksAlso ms ns (flat_map f (take i xs)) → MarksAlso ns ks (f x) → MarksAlso ms ks (flat_map f (take (i + 1) xs))
names_more f ms ns ks xs i x w e a b =
    let all : MarksAlso ms ks (flat_map f (take i xs) ++ f x) = marks_then ms ns ks (flat_map f (take i xs)) (f x) a b in
    let step : take i xs ++ x ∷ [] ≡ take (i + 1) xs = ap (λ y. take i xs ++ y ∷ []) e ∙ sym (take_more xs i x w) in
    subst (MarksAlso ms ks) (flat_map_more f [] (take i xs) x ∙ ap (flat_map f) step) all

-- ---- the descending pass

marked_within : (ms : List Bool) (i : ℕ) → IsMarked ms i → i < length ms
marked_within ms i h = go (cases_lt i (length ms))
  where
    go : (i < length ms) ⊎ (length ms ≤ i) → i < length ms
    go (inl w) = w
    go (inr past) = let none : get_or ms i false ≡ false = get_or_past ms i false past in let both : true ≡ false = sym h ∙ none in absurd (cc)

parts_earlier : (ns : List Node) (i : ℕ) (n : Node) → HasParts ns i n → (a : ℕ) → Contains (parts_of n) a → a < i
parts_earlier ns i (LeafNode h) p a c = absurd (in_none a c)
parts_earlier ns i (OneNode h x) p a c = elim (in_head_or_tail x [] a c) [ inl e ↦ omega (arith, e, p.earlier) | inr c ↦ absurd (in_none a c) ]
parts_earlier ns i (TwoNode h x y) p a c = elim (in_head_or_tail x (y ∷ []) a c) [
  | inl e ↦ omega (arith, e, p.0.earlier)
  | inr c ↦ elim (in_head_or_tail y [] a c) [ inl e ↦ omega (arith, e, p.1.earlier) | inr c ↦ absurd (in_none a c) ]
]
parts_earlier ns i (ThreeNode h x y z) p a c = elim (in_head_or_tail x (y ∷ z ∷ []) a c) [
  | inl e ↦ omega (arith, e, p.0.earlier)
  | inr c ↦ elim (in_head_or_tail y (z ∷ []) a c) [
    | inl e ↦ omega (arith, e, p.1.earlier)
    | inr c ↦ elim (in_head_or_tail z [] a c) [ inl e ↦ omega (arith, e, p.2.earlier) | inr c ↦ absurd (in_none a c) ]
  ]
]

at_is : (ns : List Node) (i : ℕ) (n : Node) → slice_get ns i ≡ Some n → parts_at ns i ≡ parts_of n
at_is ns i n found = ap parts_in found

pub parts_marked : (ns : List Node) (ms ks : List Bool) (i : ℕ) (n : Node) → IsMade ns i n → MarksAlso ms ks (parts_of n) → MarksAlso ms ks (parts_at ns i)
parts_marked ns ms ks i n made h = subst (MarksAlso ms ks) (sym (at_is ns i n made.found)) h

pub parts_before : (ns : List Node) (i : ℕ) (n : Node) → IsMade ns i n → (a : ℕ) → Contains (parts_at ns i) a → a < i
parts_before ns i n made a c = parts_earlier ns i n made.parts a (subst (λ xs. Contains xs a) (at_is ns i n made.found) c)

none_at : (ns : List Node) (i : ℕ) → length ns ≤ i → parts_at ns i ≡ []
none_at ns i past = ap parts_in (slice_get_past ns i past)

pub past_marked : (ns : List Node) (ms : List Bool) (i : ℕ) → length ns ≤ i → MarksAlso ms ms (parts_at ns i)
past_marked ns ms i past = subst (MarksAlso ms ms) (sym (none_at ns i past)) (none_more ms)

pub past_before : (ns : List Node) (i : ℕ) → length ns ≤ i → (a : ℕ) → Contains (parts_at ns i) a → a < i
past_before ns i past a c = absurd (in_none a (subst (λ xs. Contains xs a) (none_at ns i past) c))

whole_within : (ns : List Node) (i a : ℕ) → Contains (parts_at ns i) a → i < length ns
whole_within ns i a c = go (cases_lt i (length ns))
  where
    go : (i < length ns) ⊎ (length ns ≤ i) → i < length ns
    go (inl w) = w
    go (inr past) = absurd (in_none a (subst (λ xs. Contains xs a) (none_at ns i past) c))

-- the marks after the parts of the marked nodes from a number on were marked
pub record IsDownTo (ns : List Node) (old : List Bool) (start : ℕ) (marks : List Bool) : Type 0 where
  pub len : length marks ≡ length old
  pub within : start ≤ length marks
  pub kept : (i : ℕ) → IsMarked old i → IsMarked marks i
  pub inside : AreInside ns start marks
  pub needed : (names : List ℕ) → ((i : ℕ) → IsMarked old i → IsNeeded ns names i) → (i : ℕ) → IsMarked marks i → IsNeeded ns names i

pub down_begun : (ns : List Node) (ms : List Bool) (start : ℕ) → start ≡ length ms → IsDownTo ns ms start ms
down_begun ns ms start e = record {
  len = refl;
  within = omega (arith, e);
  kept = λ i h. h;
  inside = record { each = λ i a from h c. absurd (let w = marked_within ms i h in omega (arith, w, from, e)) };
  needed = λ names base i h. base i h;
}

module _ (ns : List Node) (old ms : List Bool) (start rest : ℕ) (next : start ≡ rest + 1) (down : IsDownTo ns old start ms) where
  -- the node is not marked
  pub down_same : slice_index_or ms rest false ≡ false → IsDownTo ns old rest ms
  down_same bare = record { len = down.len; within = omega (arith, next, down.within); kept = down.kept; inside = record { each = λ i a from h c. each i a from h c (cases_eq i rest) }; needed = down.needed }
    where
      each : (i a : ℕ) → rest ≤ i → IsMarked ms i → Contains (parts_at ns i) a → (i ≡ rest) ⊎ (i ≢ rest) → IsMarked ms a
      each i a from h c (inl e) = let both : true ≡ false = sym h ∙ ap (λ k. slice_index_or ms k false) e ∙ bare in absurd (cc)
      each i a from h c (inr ne) = down.inside.each i a (omega (arith, from, ne, next)) h c

  -- its parts are marked
  pub down_more : (ks : List Bool) → IsMarked ms rest → MarksAlso ms ks (parts_at ns rest) → ((a : ℕ) → Contains (parts_at ns rest) a → a < rest) → IsDownTo ns old rest ks
  down_more ks is also before = record {
    len = also.len ∙ down.len;
    within = omega (arith, next, down.within, also.len);
    kept = λ i h. still i (down.kept i h);
    inside = record { each = λ i a from h c. each i a from c (back i h) (cases_eq i rest) };
    needed = λ names base i h. need names base i (back i h);
  }
    where
      still : (i : ℕ) → IsMarked ms i → IsMarked ks i
      still i h = (also.marked i (marked_within ms i h)).1 (inl h)

      back : (i : ℕ) → IsMarked ks i → IsMarked ms i ⊎ Contains (parts_at ns rest) i
      back i h = (also.marked i (let w = marked_within ks i h in omega (arith, w, also.len))).0 h

      part : (a : ℕ) → Contains (parts_at ns rest) a → IsMarked ks a
      part a c = (also.marked a (let w = marked_within ms rest is in let e = before a c in omega (arith, w, e))).1 (inr c)

      each : (i a : ℕ) → rest ≤ i → Contains (parts_at ns i) a → IsMarked ms i ⊎ Contains (parts_at ns rest) i → (i ≡ rest) ⊎ (i ≢ rest) → IsMarked ks a
      each i a from c m (inl e) = part a (subst (λ k. Contains (parts_at ns k) a) e c)
      each i a from c (inl h) (inr ne) = still a (down.inside.each i a (omega (arith, from, ne, next)) h c)
      each i a from c (inr d) (inr ne) = absurd (let e = before i d in omega (arith, e, from))

      need : (names : List ℕ) → ((i : ℕ) → IsMarked old i → IsNeeded ns names i) → (i : ℕ) → IsMarked ms i ⊎ Contains (parts_at ns rest) i → IsNeeded ns names i
      need names base i (inl h) = down.needed names base i h
      need names base i (inr c) = AsPart i rest c (down.needed names base rest is)

-- ---- the nodes that a trace needs

module _ (ns : List Node) (names : List ℕ) (none named all : List Bool) (begun : none ≡ replicate (length ns) false) (also : MarksAlso none named names) (len : length all ≡ length named) (kept : (i : ℕ) → IsMarked named i → IsMarked all i) (inside : AreInside ns 0 all) (needed : (names : List ℕ) → ((i : ℕ) → IsMarked named i → IsNeeded ns names i) → (i : ℕ) → IsMarked all i → IsNeeded ns names i) where
  unmarked : (i : ℕ) → i < length ns → IsMarked none i → ⊥
  unmarked i w h = let bare : get_or none i false ≡ false = ap (λ ms. get_or ms i false) begun ∙ get_or-replicate (length ns) i false false w in let both : true ≡ false = sym h ∙ bare in absurd (cc)

  long : length none ≡ length ns
  long = ap length begun ∙ length-replicate (length ns) false

  base : (i : ℕ) → IsMarked named i → IsNeeded ns names i
  base i h =
      let w : i < length none = (let v = marked_within named i h in omega (arith, v, also.len)) in
      elim ((also.marked i w).0 h) [ inl m ↦ absurd (unmarked i (omega (arith, w, long)) m) | inr c ↦ AsNamed i c ]

  complete : (i : ℕ) → IsNeeded ns names i → i < length ns → IsMarked all i
  complete i (AsNamed k c) w = kept k ((also.marked k (omega (arith, w, long))).1 (inr c))
  complete i (AsPart k j c h) w = inside.each j k (omega arith) (complete j h (whole_within ns j k c)) c

  pub are_needed : AreNeeded ns names all
  are_needed = record {
    one_each = len ∙ also.len ∙ long;
    marked = λ i w. (λ h. needed names base i h, λ h. complete i h w);
  }
