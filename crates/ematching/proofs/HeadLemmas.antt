-- The index by head symbol, one node after another.
use Rattle.std.proofs.Common.{◌≡◌, ◌≢◌, ◌⊎◌, inl, inr, ℕ, zero, suc, ◌+◌, ◌<◌, ◌≤◌, Bool, true, false, List, [], ◌∷◌, ◌++◌, length, Option, Some, None, refl, sym, ap, ◌∙◌, subst, arith, length-append}
use Rattle.std.specs.Prelude.{slice_get, slice_index_or}
use Rattle.std.proofs.lemmas.Bool.{cases_eq, cases_lt}
use Rattle.std.proofs.lemmas.List.{length_push}
use Rattle.std.proofs.lemmas.Option.{slice_get_within}
use Rattle.term_pool.specs.NodeCodes.{same_node, same_node_decides}
use Rattle.term_pool.specs.Pools.{Extends}
use Rattle.term_pool.specs.declared.node.Node.{Node}
use Rattle.ematching.specs.Heads.{head_of, last_of, HasHead, IsLastBelow, IsIndex, IsIndexOf, IsIndexedMore}
use Rattle.ematching.specs.declared.heads.HeadIndex.{HeadIndex}

pub index_none : (ns : List Node) (d : HeadIndex) → d.before.items ≡ [] → ((h : Node) → last_of d h ≡ None) → IsIndex ns d
index_none ns d e none = record {
  within = (let l = length_is in omega (arith, l));
  last = λ h. subst (IsLastBelow ns h (length d.before.items)) (sym (none h)) (record { none = λ k w _. (let l = length_is in absurd (omega (arith, w, l))) });
  before = λ n node w found. (let l = length_is in absurd (omega (arith, w, l)));
}
  where
    length_is : length d.before.items ≡ 0
    length_is = ap length e

module _ (ns : List Node) where
  -- a node with another head symbol changes nothing
  further : (h : Node) (limit : ℕ) (node : Node) → slice_get ns limit ≡ Some node → h ≢ head_of node → (o : Option ℕ) → IsLastBelow ns h limit o → IsLastBelow ns h (limit + 1) o
  further h limit node found other o known = go o known
    where
      not_here : (k : ℕ) → HasHead ns h k → k ≡ limit → ⊥
      not_here k has e =
          let both : Some has.node ≡ Some node = sym has.found ∙ ap (slice_get ns) e ∙ found in
          let same : has.node ≡ node = cc in
          other (sym has.same ∙ ap head_of same)

      below : (k : ℕ) → k < limit + 1 → (k < limit) ⊎ (k ≡ limit)
      below k w = pick (cases_eq k limit)
        where
          pick : (k ≡ limit) ⊎ (k ≡ limit → ⊥) → (k < limit) ⊎ (k ≡ limit)
          pick (inl e) = inr e
          pick (inr f) = inl (omega (arith, w, f))

      go : (o : Option ℕ) → IsLastBelow ns h limit o → IsLastBelow ns h (limit + 1) o
      go None k = record { none = λ m w has. none m (below m w) has }
        where
          none : (m : ℕ) → (m < limit) ⊎ (m ≡ limit) → HasHead ns h m → ⊥
          none m (inl w) has = k.none m w has
          none m (inr e) has = not_here m has e
      go (Some l) k = record { below = (let w = k.below in omega (arith, w)); has = k.has; none = λ m v w has. none m v (below m w) has }
        where
          none : (m : ℕ) → l < m → (m < limit) ⊎ (m ≡ limit) → HasHead ns h m → ⊥
          none m v (inl w) has = k.none m v w has
          none m v (inr e) has = not_here m has e

  at_first : {X : Type 0} (xs ys : List X) (k : ℕ) (z : X) → k < length xs → slice_index_or (xs ++ ys) k z ≡ slice_index_or xs k z
  at_first [] ys k z w = absurd (omega arith)
  at_first (x ∷ xs) ys zero z w = refl
  at_first (x ∷ xs) ys (suc k) z w = at_first xs ys k z (omega arith)

  at_last : {X : Type 0} (xs : List X) (y z : X) → slice_index_or (xs ++ y ∷ []) (length xs) z ≡ y
  at_last [] y z = refl
  at_last (x ∷ xs) y z = at_last xs y z

  pub index_more : (d e : HeadIndex) (node : Node) → slice_get ns (length d.before.items) ≡ Some node → IsIndex ns d → IsIndexedMore node d e → IsIndex ns e
  index_more d e node found index more = record {
    within = (let l = length_is in let w = slice_get_within ns limit node found in omega (arith, l, w));
    last = λ h. subst (λ k. IsLastBelow ns h k (last_of e h)) (sym length_is) (last h (same_node h (head_of node)) refl);
    before = λ n other w at. before n other at (cases_lt n limit) (let l = length_is in omega (arith, w, l));
  }
    where
      limit : ℕ
      limit = length d.before.items

      length_is : length e.before.items ≡ limit + 1
      length_is = ap length more.before ∙ length_push d.before.items (last_of d (head_of node))

      here : (h : Node) → h ≡ head_of node → IsLastBelow ns h (limit + 1) (Some limit)
      here h is = record { below = omega arith; has = record { node = node; found = found; same = sym is }; none = λ k v w _. absurd (omega (arith, v, w)) }

      last : (h : Node) (b : Bool) → same_node h (head_of node) ≡ b → IsLastBelow ns h (limit + 1) (last_of e h)
      last h true is =
          let same = (same_node_decides h (head_of node)).0 is in
          subst (IsLastBelow ns h (limit + 1)) (sym (ap (last_of e) same ∙ more.last)) (here h same)
      last h false is =
          let other : h ≢ head_of node = λ f. (let t : same_node h (head_of node) ≡ true = (same_node_decides h (head_of node)).1 f in absurd (cc)) in
          subst (IsLastBelow ns h (limit + 1)) (sym (more.others h other)) (further h limit node found other (last_of d h) (index.last h))

      before : (n : ℕ) (other : Node) → slice_get ns n ≡ Some other → (n < limit) ⊎ (limit ≤ n) → n < limit + 1 → IsLastBelow ns (head_of other) n (slice_index_or e.before.items n None)
      before n other at (inl w) v =
          subst (IsLastBelow ns (head_of other) n) (sym (ap (λ xs. slice_index_or xs n None) more.before ∙ at_first d.before.items (last_of d (head_of node) ∷ []) n None w)) (index.before n other w at)
      before n other at (inr w) v =
          let is : limit ≡ n = omega (arith, w, v) in
          let both : Some other ≡ Some node = sym at ∙ ap (slice_get ns) (sym is) ∙ found in
          let same : other ≡ node = cc in
          let value : slice_index_or e.before.items n None ≡ last_of d (head_of node) = ap (λ k. slice_index_or e.before.items k None) (sym is) ∙ ap (λ xs. slice_index_or xs limit None) more.before ∙ at_last d.before.items (last_of d (head_of node)) None in
          subst (IsLastBelow ns (head_of other) n) (sym value) (subst (λ k. IsLastBelow ns (head_of other) k (last_of d (head_of node))) is (subst (λ o. IsLastBelow ns (head_of o) limit (last_of d (head_of node))) (sym same) (index.last (head_of node))))

-- ---- a pool that is extended

kept_at : (ns more : List Node) (k : ℕ) (n : Node) → k < length ns → slice_get (ns ++ more) k ≡ Some n → slice_get ns k ≡ Some n
kept_at [] more k n w e = absurd (omega arith)
kept_at (x ∷ ns) more zero n w e = e
kept_at (x ∷ ns) more (suc k) n w e = kept_at ns more k n (omega arith) e

stays_at : (ns more : List Node) (k : ℕ) (n : Node) → slice_get ns k ≡ Some n → slice_get (ns ++ more) k ≡ Some n
stays_at [] more k n e = absurd (cc)
stays_at (x ∷ ns) more zero n e = e
stays_at (x ∷ ns) more (suc k) n e = stays_at ns more k n e

module _ (ns ms : List Node) (grown : Extends ns ms) where
  head_then : (h : Node) (k : ℕ) → HasHead ns h k → HasHead ms h k
  head_then h k has = record { node = has.node; found = subst (λ xs. slice_get xs k ≡ Some has.node) (sym grown.is) (stays_at ns grown.more k has.node has.found); same = has.same }

  head_before : (h : Node) (k : ℕ) → k < length ns → HasHead ms h k → HasHead ns h k
  head_before h k w has = record { node = has.node; found = kept_at ns grown.more k has.node w (subst (λ xs. slice_get xs k ≡ Some has.node) grown.is has.found); same = has.same }

  still : (h : Node) (limit : ℕ) → limit ≤ length ns → (o : Option ℕ) → IsLastBelow ns h limit o → IsLastBelow ms h limit o
  still h limit w None known = record { none = λ k v has. known.none k v (head_before h k (omega (arith, v, w)) has) }
  still h limit w (Some n) known = record { below = known.below; has = head_then h n known.has; none = λ k u v has. known.none k u v (head_before h k (omega (arith, v, w)) has) }

  pub index_stays : (d : HeadIndex) → IsIndex ns d → IsIndex ms d
  index_stays d h = record {
    within = (let a = h.within in let l : length ms ≡ length (ns ++ grown.more) = ap length grown.is in omega (arith, a, l, length-append ns grown.more));
    last = λ g. still g (length d.before.items) h.within (last_of d g) (h.last g);
    before = λ n node w found. still (head_of node) n (let a = h.within in omega (arith, a, w)) (slice_index_or d.before.items n None) (h.before n node w (kept_at ns grown.more n node (let a = h.within in omega (arith, a, w)) (subst (λ xs. slice_get xs n ≡ Some node) grown.is found)));
  }

  pub index_later : (d : HeadIndex) → IsIndexOf ns d → IsIndex ms d
  index_later d h = index_stays d h.index

pub not_same_node : (m n : Node) → n ≢ m → same_node m n ≡ false
not_same_node m n other = go (same_node m n) refl
  where
    go : (b : Bool) → same_node m n ≡ b → same_node m n ≡ false
    go true e = absurd (other (sym ((same_node_decides m n).0 e)))
    go false e = e
