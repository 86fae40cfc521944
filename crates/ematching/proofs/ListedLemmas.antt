-- Lists of the numbers with a property: one more number, or none; and the nodes with a head symbol, one after another.
use Rattle.std.proofs.Common.{◌≡◌, ◌⊎◌, inl, inr, ℕ, suc, ◌+◌, ◌<◌, ◌≤◌, List, [], ◌∷◌, ◌++◌, length, get_or, take, Option, Some, None, sym, subst, arith}
use Rattle.std.specs.Prelude.{◌↔◌, slice_index_or}
use Rattle.std.proofs.lemmas.Bool.{cases_eq, cases_lt}
use Rattle.std.proofs.lemmas.List.{take_all, take_more}
use Rattle.std.proofs.lemmas.Option.{slice_get_within}
use Rattle.term_pool.specs.declared.node.Node.{Node}
use Rattle.ematching.specs.Numbers.{IsAmong}
use Rattle.ematching.specs.Heads.{last_of, HasHead, NoneBelow, IsLast, IsLastBelow, IsIndexOf}
use Rattle.ematching.specs.Listed.{AreThose}
use Rattle.ematching.specs.declared.heads.HeadIndex.{HeadIndex}
use Rattle.ematching.proofs.ListLemmas.{among_first, among_push, among_push_cases}

-- ---- one more number, or the same ones

pub those_none : (P : ℕ → Type 0) (xs : List ℕ) → xs ≡ [] → ((n : ℕ) → P n → ⊥) → AreThose P xs
those_none P xs e none = record { each = λ n. (λ h. absurd (subst (IsAmong n) e h), λ p. absurd (none n p)) }

pub those_same : (P Q : ℕ → Type 0) (xs : List ℕ) → ((n : ℕ) → Q n ↔ P n) → AreThose P xs → AreThose Q xs
those_same P Q xs same h = record { each = λ n. (λ a. (same n).1 ((h.each n).0 a), λ q. (h.each n).1 ((same n).0 q)) }

pub those_push : (P Q : ℕ → Type 0) (xs ys : List ℕ) (k : ℕ) → ys ≡ xs ++ k ∷ [] → ((n : ℕ) → Q n ↔ (P n ⊎ (n ≡ k))) → AreThose P xs → AreThose Q ys
those_push P Q xs ys k e same h = record { each = λ n. (λ a. (same n).1 (to n (among_push_cases n k xs (subst (IsAmong n) e a))), λ q. subst (IsAmong n) (sym e) (from n ((same n).0 q))) }
  where
    to : (n : ℕ) → IsAmong n xs ⊎ (n ≡ k) → P n ⊎ (n ≡ k)
    to n (inl a) = inl ((h.each n).0 a)
    to n (inr f) = inr f

    from : (n : ℕ) → P n ⊎ (n ≡ k) → IsAmong n (xs ++ k ∷ [])
    from n (inl p) = among_first n xs (k ∷ []) ((h.each n).1 p)
    from n (inr f) = subst (λ m. IsAmong m (xs ++ k ∷ [])) (sym f) (among_push xs k)

-- ---- the first numbers of a list

abbrev pub IsFirst : (ℕ → Type 0) → List ℕ → ℕ → ℕ → Type 0
IsFirst P xs i n = IsAmong n (take i xs) × P n

module _ (P : ℕ → Type 0) (xs : List ℕ) (i : ℕ) (w : i < length xs) where
  first_cases : (n : ℕ) → IsAmong n (take (i + 1) xs) → IsAmong n (take i xs) ⊎ (n ≡ get_or xs i 0)
  first_cases n h = among_push_cases n (get_or xs i 0) (take i xs) (subst (IsAmong n) (take_more xs i 0 w) h)

  first_still : (n : ℕ) → IsAmong n (take i xs) → IsAmong n (take (i + 1) xs)
  first_still n h = subst (IsAmong n) (sym (take_more xs i 0 w)) (among_first n (take i xs) (get_or xs i 0 ∷ []) h)

  first_here : IsAmong (get_or xs i 0) (take (i + 1) xs)
  first_here = subst (IsAmong (get_or xs i 0)) (sym (take_more xs i 0 w)) (among_push (take i xs) (get_or xs i 0))

  pub first_push : P (get_or xs i 0) → (n : ℕ) → IsFirst P xs (i + 1) n ↔ (IsFirst P xs i n ⊎ (n ≡ get_or xs i 0))
  first_push p n = (λ h. to h.1 (first_cases n h.0), λ h. from h)
    where
      to : P n → IsAmong n (take i xs) ⊎ (n ≡ get_or xs i 0) → IsFirst P xs i n ⊎ (n ≡ get_or xs i 0)
      to q (inl a) = inl (a, q)
      to q (inr e) = inr e

      from : IsFirst P xs i n ⊎ (n ≡ get_or xs i 0) → IsFirst P xs (i + 1) n
      from (inl h) = (first_still n h.0, h.1)
      from (inr e) = (subst (λ m. IsAmong m (take (i + 1) xs)) (sym e) first_here, subst P (sym e) p)

  pub first_skip : (P (get_or xs i 0) → ⊥) → (n : ℕ) → IsFirst P xs (i + 1) n ↔ IsFirst P xs i n
  first_skip none n = (λ h. to h.1 (first_cases n h.0), λ h. (first_still n h.0, h.1))
    where
      to : P n → IsAmong n (take i xs) ⊎ (n ≡ get_or xs i 0) → IsFirst P xs i n
      to q (inl a) = (a, q)
      to q (inr e) = absurd (none (subst P e q))

pub first_all : (P Q : ℕ → Type 0) (xs : List ℕ) (i : ℕ) → length xs ≤ i → AreThose Q xs → (n : ℕ) → (Q n × P n) ↔ IsFirst P xs i n
first_all P Q xs i w h n = (λ (q : Q n × P n). (subst (IsAmong n) (sym (take_all i xs w)) ((h.each n).1 q.0), q.1), λ (q : IsFirst P xs i n). ((h.each n).0 (subst (IsAmong n) (take_all i xs w) q.0), q.1))

-- ---- the nodes with a head symbol, from the last one on

abbrev pub steps_to : Option ℕ → ℕ
steps_to None = 0
steps_to (Some n) = suc n

-- the numbers with the head symbol from some number on are listed, and this is the last one before
pub record IsHeadWalk (ns : List Node) (h : Node) (next : Option ℕ) (numbers : List ℕ) : Type 0 where
  pub limit : ℕ
  pub within : limit ≤ length ns
  pub next_is : IsLastBelow ns h limit next
  pub those : AreThose (λ n. HasHead ns h n × (limit ≤ n)) numbers

module _ (ns : List Node) (d : HeadIndex) (index : IsIndexOf ns d) (h : Node) where
  inside : (n : ℕ) → HasHead ns h n → n < length ns
  inside n has = slice_get_within ns n has.node has.found

  pub head_walk_begun : (next : Option ℕ) (xs : List ℕ) → xs ≡ [] → next ≡ last_of d h → IsHeadWalk ns h next xs
  head_walk_begun next xs e f = record {
    limit = length ns;
    within = omega arith;
    next_is = subst (IsLastBelow ns h (length ns)) (sym f) (subst (λ k. IsLastBelow ns h k (last_of d h)) index.whole (index.index.last h));
    those = those_none (λ n. HasHead ns h n × (length ns ≤ n)) xs e (λ n q. (let w = inside n q.0 in let v = q.1 in absurd (omega (arith, w, v))));
  }

  module _ (n : ℕ) (xs : List ℕ) (next : Option ℕ) (walk : IsHeadWalk ns h (Some n) xs) (e : next ≡ slice_index_or d.before.items n None) where
    here : IsLast ns h walk.limit n
    here = walk.next_is

    before_is : IsLastBelow ns h n next
    before_is =
        let known = index.index.before n here.has.node (let w = inside n here.has in let l = index.whole in omega (arith, w, l)) here.has.found in
        subst (IsLastBelow ns h n) (sym e) (subst (λ g. IsLastBelow ns g n (slice_index_or d.before.items n None)) here.has.same known)

    pub head_walk_more : (ys : List ℕ) → ys ≡ xs ++ n ∷ [] → IsHeadWalk ns h next ys
    head_walk_more ys f = record {
      limit = n;
      within = (let w = inside n here.has in omega (arith, w));
      next_is = before_is;
      those = those_push (λ m. HasHead ns h m × (walk.limit ≤ m)) (λ m. HasHead ns h m × (n ≤ m)) xs ys n f (λ m. (λ q. to m q.0 (cases_eq m n) (cases_lt m walk.limit) q.1, λ q. from m q)) walk.those;
    }
      where
        to : (m : ℕ) → HasHead ns h m → (m ≡ n) ⊎ (m ≡ n → ⊥) → (m < walk.limit) ⊎ (walk.limit ≤ m) → n ≤ m → (HasHead ns h m × (walk.limit ≤ m)) ⊎ (m ≡ n)
        to m has (inl same) c w = inr same
        to m has (inr other) (inl v) w = absurd (here.none m (omega (arith, w, other)) v has)
        to m has (inr other) (inr v) w = inl (has, v)

        from : (m : ℕ) → (HasHead ns h m × (walk.limit ≤ m)) ⊎ (m ≡ n) → HasHead ns h m × (n ≤ m)
        from m (inl q) = (q.0, (let v = q.1 in let w = here.below in omega (arith, v, w)))
        from m (inr same) = (subst (HasHead ns h) (sym same) here.has, omega (arith, same))

    pub head_walk_falls : steps_to next < suc n
    head_walk_falls = go next before_is
      where
        go : (o : Option ℕ) → IsLastBelow ns h n o → steps_to o < suc n
        go None known = omega arith
        go (Some m) known = (let w = known.below in omega (arith, w))

  pub head_walk_done : (xs : List ℕ) → IsHeadWalk ns h None xs → AreThose (HasHead ns h) xs
  head_walk_done xs walk = those_same (λ n. HasHead ns h n × (walk.limit ≤ n)) (HasHead ns h) xs (λ n. (λ has. (has, from n has (cases_lt n walk.limit)), λ q. q.0)) walk.those
    where
      none : NoneBelow ns h walk.limit
      none = walk.next_is

      from : (n : ℕ) → HasHead ns h n → (n < walk.limit) ⊎ (walk.limit ≤ n) → walk.limit ≤ n
      from n has (inl w) = absurd (none.none n w has)
      from n has (inr w) = w
