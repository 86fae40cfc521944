-- The results of a look-up among nodes.
use Rattle.std.proofs.Common.{◌≡◌, ℕ, zero, suc, ◌+◌, Bool, true, false, cond, List, [], ◌∷◌, ◌++◌, length, Option, Some, None, refl, sym, ap, ◌∙◌, subst, arith}
use Rattle.std.specs.Prelude.{slice_get, position, MatchOption, if◌then◌else◌}
use Rattle.std.specs.List.{position_from}
use Rattle.std.specs.Map.{keys_of, values_of}
use Rattle.indexmap.specs.IndexMap.{insert_entry}
use Rattle.std.proofs.lemmas.List.{map-append, length-map}
use Rattle.std.proofs.lemmas.Iterator.Adapters.{position_from-zero}
use Rattle.term_pool.specs.NodeCodes.{same_node, same_node_decides}
use Rattle.term_pool.specs.Pools.{item_of, items, HasParts, IsNowhere, IsMade, Extends}
use Rattle.term_pool.specs.Depths.{item_depth, counted, IsKept}
use Rattle.term_pool.specs.declared.node.Node.{Node}
use Rattle.term_pool.proofs.OnceLemmas.{made, at_end}
use Rattle.term_pool.proofs.DepthLemmas.{kept_more}

record IsFirst (n : Node) (ns : List Node) (k i : ℕ) : Type 0 where
  position : ℕ
  is : i ≡ k + position
  found : slice_get ns position ≡ Some n

first_from : (n : Node) (ns : List Node) (k i : ℕ) → position_from (same_node n) k ns ≡ Some i → IsFirst n ns k i
first_from n [] k i e = absurd (cc)
first_from n (m ∷ ns) k i e = go (λ h. first_from n ns (k + 1) i h) (same_node n m) refl e
  where
    go : (position_from (same_node n) (k + 1) ns ≡ Some i → IsFirst n ns (k + 1) i) → (b : Bool) → same_node n m ≡ b → cond b (Some k) (position_from (same_node n) (k + 1) ns) ≡ Some i → IsFirst n (m ∷ ns) k i
    go later true t h = let here : k ≡ i = cc in record { position = 0; is = omega (arith, here); found = ap Some (sym ((same_node_decides n m).0 t)) }
    go later false t h = let rest = later h in record { position = suc rest.position; is = omega (arith, rest.is); found = rest.found }

nowhere_from : (n : Node) (ns : List Node) (k : ℕ) → position_from (same_node n) k ns ≡ None → (i : ℕ) → slice_get ns i ≡ Some n → ⊥
nowhere_from n [] k e i found = absurd (cc)
nowhere_from n (m ∷ ns) k e i found = go (λ h j f. nowhere_from n ns (k + 1) h j f) (same_node n m) refl e i found
  where
    go : (position_from (same_node n) (k + 1) ns ≡ None → (j : ℕ) → slice_get ns j ≡ Some n → ⊥) → (b : Bool) → same_node n m ≡ b → cond b (Some k) (position_from (same_node n) (k + 1) ns) ≡ None → (i : ℕ) → slice_get (m ∷ ns) i ≡ Some n → ⊥
    go later true t h i found = absurd (cc)
    go later false t h zero found = let here : m ≡ n = cc in let same = (same_node_decides n m).1 (sym here) in let both : true ≡ false = sym same ∙ t in absurd (cc)
    go later false t h (suc i) found = later h i found

module _ (n : Node) (ns : List Node) where
  pub found_at : (i : ℕ) → position (same_node n) ns ≡ Some i → slice_get ns i ≡ Some n
  found_at i e =
      let first = first_from n ns 0 i (sym (position_from-zero (same_node n) ns) ∙ e) in
      let here : first.position ≡ i = omega (arith, first.is) in
      subst (λ k. slice_get ns k ≡ Some n) here first.found

  pub nowhere : position (same_node n) ns ≡ None → IsNowhere ns n
  nowhere e = record { nowhere = nowhere_from n ns 0 (sym (position_from-zero (same_node n) ns) ∙ e) }

-- the result of a look-up among the nodes of a pool
pub looked_up : (n : Node) (ns : List Node) (ds : List ℕ) (view : List Node) → IsKept ns ds → ns ≡ view → (r : Option ℕ) → r ≡ position (same_node n) ns → MatchOption r (IsNowhere view n) (λ i. IsMade view i n)
looked_up n ns ds view kept e (Some i) h = subst (λ k. IsMade k i n) e (made ns kept.pool i n (found_at n ns i (sym h)))
looked_up n ns ds view kept e None h = subst (λ k. IsNowhere k n) e (nowhere n ns (sym h))

-- the entry at an index
key_at : (es : List (Node × ℕ)) (i : ℕ) (p : Node × ℕ) → slice_get es i ≡ Some p → slice_get (keys_of es) i ≡ Some p.0
key_at [] i p e = absurd (cc)
key_at (q ∷ es) zero p e = let same : q ≡ p = cc in ap (λ (x : Node × ℕ). Some x.0) same
key_at (q ∷ es) (suc i) p e = key_at es i p e

pub entry_made : (es : List (Node × ℕ)) (view : List Node) (i : ℕ) (p : Node × ℕ) → IsKept (keys_of es) (values_of es) → keys_of es ≡ view → slice_get es i ≡ Some p → IsMade view i p.0
entry_made es view i p kept e h = subst (λ k. IsMade k i p.0) e (made (keys_of es) kept.pool i p.0 (key_at es i p h))

-- one more entry
pub keys_more : (es : List (Node × ℕ)) (n : Node) (d : ℕ) → keys_of (es ++ (n, d) ∷ []) ≡ keys_of es ++ n ∷ []
keys_more es n d = map-append (λ (e : Node × ℕ). e.0) es ((n, d) ∷ [])

pub values_more : (es : List (Node × ℕ)) (n : Node) (d : ℕ) → values_of (es ++ (n, d) ∷ []) ≡ values_of es ++ d ∷ []
values_more es n d = map-append (λ (e : Node × ℕ). e.1) es ((n, d) ∷ [])

-- an entry with a new key goes last
entry_added : (es : List (Node × ℕ)) (n : Node) (d : ℕ) → IsNowhere (keys_of es) n → insert_entry same_node es n d ≡ es ++ (n, d) ∷ []
entry_added [] n d none = refl
entry_added (e ∷ es) n d none =
    go (entry_added es n d (record { nowhere = λ i h. none.nowhere (suc i) h })) (same_node n e.0) refl
  where
    go : insert_entry same_node es n d ≡ es ++ (n, d) ∷ [] → (b : Bool) → same_node n e.0 ≡ b → (if b then (e.0, d) ∷ es else e ∷ insert_entry same_node es n d) ≡ e ∷ (es ++ (n, d) ∷ [])
    go rest true t = absurd (none.nowhere 0 (ap Some (sym ((same_node_decides n e.0).0 t))))
    go rest false t = ap (λ fs. e ∷ fs) rest

-- the number of keys
pub positions : (es : List (Node × ℕ)) (view : List Node) → keys_of es ≡ view → length es ≡ length view
positions es view e = sym (length-map es (λ (p : Node × ℕ). p.0)) ∙ ap length e

pub record Grown (fs : List (Node × ℕ)) (view : List Node) (n : Node) : Type 0 where
  pub kept : IsKept (keys_of fs) (values_of fs)
  pub extends : Extends view (keys_of fs)
  pub made : (i : ℕ) → i ≡ length view → IsMade (keys_of fs) i n

pub grown : (es fs : List (Node × ℕ)) (view : List Node) (n : Node) (d : ℕ) → IsKept (keys_of es) (values_of es) → keys_of es ≡ view → HasParts view (length view) n → IsNowhere view n → d ≡ counted (item_depth (item_of (items view) n)) → fs ≡ insert_entry same_node es n d → Grown fs view n
grown es fs view n d kept e parts none deep added =
    let nowhere_here : IsNowhere (keys_of es) n = subst (λ ns. IsNowhere ns n) (sym e) none in
    let is : fs ≡ es ++ (n, d) ∷ [] = added ∙ entry_added es n d nowhere_here in
    let keys : keys_of fs ≡ view ++ n ∷ [] = ap keys_of is ∙ keys_more es n d ∙ ap (λ ns. ns ++ n ∷ []) e in
    let values : values_of fs ≡ values_of es ++ d ∷ [] = ap values_of is ∙ values_more es n d in
    let more : IsKept (view ++ n ∷ []) (values_of es ++ d ∷ []) = kept_more view (values_of es) n d (subst (λ ns. IsKept ns (values_of es)) e kept) parts none deep in
    let all : IsKept (keys_of fs) (values_of fs) = subst (λ ns. IsKept ns (values_of fs)) (sym keys) (subst (IsKept (view ++ n ∷ [])) (sym values) more) in
    record {
      kept = all;
      extends = record { more = n ∷ []; is = keys };
      made = λ i h. made (keys_of fs) all.pool i n (ap (λ ns. slice_get ns i) keys ∙ ap (slice_get (view ++ n ∷ [])) h ∙ at_end view n);
    }
