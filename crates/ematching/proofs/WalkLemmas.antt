-- Walks along the parts of items.
use Rattle.std.proofs.Common.{◌≡◌, ◌⊎◌, inl, inr, ℕ, ◌+◌, ◌*◌, ◌<◌, ◌≤◌, Bool, true, false, cond, eqb, List, [], ◌∷◌, ◌++◌, length, Some, None, refl, sym, ap, ◌∙◌, subst, arith, length-append}
use Rattle.std.specs.Prelude.{slice_get}
use Rattle.std.proofs.lemmas.List.{length_push}
use Rattle.std.proofs.lemmas.Option.{slice_get_within}
use Rattle.term_pool.specs.Pools.{IsMade, HasParts}
use Rattle.term_pool.specs.declared.node.One.TheVariants.{Not, Join}
use Rattle.term_pool.specs.declared.node.Two.TheVariants.{Pack, Field, Is, Connect, Quantify, ConsFormula}
use Rattle.term_pool.specs.declared.node.Three.TheVariants.{SetField}
use Rattle.term_pool.specs.declared.node.Node.{Node}
use Rattle.term_pool.specs.declared.node.Node.TheVariants.{Leaf as LeafNode, One as OneNode, Two as TwoNode, Three as ThreeNode}
use Rattle.tableau.specs.Logs.{value_in, change_of}
use Rattle.tableau.specs.Marks.{is_at_most, unmarked}
use Rattle.tableau.specs.declared.log.Change.{Change}
use Rattle.tableau.proofs.MarkLemmas.{value_cases, fewer}
use Rattle.ematching.specs.Numbers.{IsAmong}
use Rattle.ematching.specs.Walks.{free_parts, binding_parts, parts_on, IsReached, Itself, Below, IsNode, AreReached, IsTurn}
use Rattle.ematching.specs.declared.walk.Way.{Way}
use Rattle.ematching.specs.declared.walk.Way.TheVariants.{Free, Bound}
use Rattle.ematching.proofs.ListLemmas.{among_first, among_last, among_cases, among_push, among_push_cases}

-- ---- parts are few, and earlier

-- the parts are some of those of the node
pub record AreParts (limit : ℕ) (ps : List ℕ) : Type 0 where
  pub few : length ps ≤ 3
  pub earlier : (p : ℕ) → IsAmong p ps → p < limit

none_of : (n : ℕ) → AreParts n []
none_of n = record { few = omega arith; earlier = λ p z. absurd z }

one_of : (n a : ℕ) → a < n → AreParts n (a ∷ [])
one_of n a w = record { few = omega arith; earlier = go }
  where
    go : (p : ℕ) → IsAmong p (a ∷ []) → p < n
    go p (inl e) = omega (arith, e, w)
    go p (inr z) = absurd z

two_of : (n a b : ℕ) → a < n → b < n → AreParts n (a ∷ b ∷ [])
two_of n a b w v = record { few = omega arith; earlier = go }
  where
    go : (p : ℕ) → IsAmong p (a ∷ b ∷ []) → p < n
    go p (inl e) = omega (arith, e, w)
    go p (inr (inl e)) = omega (arith, e, v)
    go p (inr (inr z)) = absurd z

three_of : (n a b c : ℕ) → a < n → b < n → c < n → AreParts n (a ∷ b ∷ c ∷ [])
three_of n a b c w v u = record { few = omega arith; earlier = go }
  where
    go : (p : ℕ) → IsAmong p (a ∷ b ∷ c ∷ []) → p < n
    go p (inl e) = omega (arith, e, w)
    go p (inr (inl e)) = omega (arith, e, v)
    go p (inr (inr (inl e))) = omega (arith, e, u)
    go p (inr (inr (inr z))) = absurd z

unless_bound : (n a b : ℕ) (c : Bool) → a < n → b < n → AreParts n (cond c [] (a ∷ b ∷ []))
unless_bound n a b true w v = none_of n
unless_bound n a b false w v = two_of n a b w v

pub are_free_parts : (ns : List Node) (x n : ℕ) (node : Node) → HasParts ns n node → AreParts n (free_parts x node)
are_free_parts ns x n (LeafNode h) parts = none_of n
are_free_parts ns x n (OneNode h a) parts = one_of n a parts.earlier
are_free_parts ns x n (TwoNode Pack a b) parts = one_of n b parts.1.earlier
are_free_parts ns x n (TwoNode (Field k) a b) parts = one_of n b parts.1.earlier
are_free_parts ns x n (TwoNode Is a b) parts = one_of n b parts.1.earlier
are_free_parts ns x n (TwoNode (Quantify o k) a b) parts = unless_bound n a b (eqb x k) parts.0.earlier parts.1.earlier
are_free_parts ns x n (TwoNode h a b) parts = two_of n a b parts.0.earlier parts.1.earlier
are_free_parts ns x n (ThreeNode (SetField k) a b c) parts = two_of n b c parts.1.earlier parts.2.earlier
are_free_parts ns x n (ThreeNode h a b c) parts = three_of n a b c parts.0.earlier parts.1.earlier parts.2.earlier

pub are_binding_parts : (ns : List Node) (n : ℕ) (node : Node) → HasParts ns n node → AreParts n (binding_parts node)
are_binding_parts ns n (OneNode Not a) parts = one_of n a parts.earlier
are_binding_parts ns n (OneNode (Join o) a) parts = one_of n a parts.earlier
are_binding_parts ns n (TwoNode (Connect o) a b) parts = two_of n a b parts.0.earlier parts.1.earlier
are_binding_parts ns n (TwoNode (Quantify o k) a b) parts = one_of n b parts.1.earlier
are_binding_parts ns n (TwoNode ConsFormula a b) parts = two_of n a b parts.0.earlier parts.1.earlier
are_binding_parts ns n node parts = none_of n

pub are_parts : (ns : List Node) (way : Way) (n : ℕ) (node : Node) → HasParts ns n node → AreParts n (parts_on way node)
are_parts ns (Free x) n node parts = are_free_parts ns x n node parts
are_parts ns Bound n node parts = are_binding_parts ns n node parts

-- ---- the walk

-- the invariant of the walk: as in `AreReached`, except for the waiting numbers
pub record IsWalk (ns : List Node) (way : Way) (top : ℕ) (cs : List Change) (ks ws : List ℕ) : Type 0 where
  pub seen : (n v : ℕ) → value_in cs n ≡ Some v → IsAmong n ks
  pub has_top : IsAmong top ks ⊎ IsAmong top ws
  pub nodes : (n : ℕ) → IsAmong n ks → IsNode ns n
  pub parts : (n : ℕ) (node : Node) (part : ℕ) → IsAmong n ks → slice_get ns n ≡ Some node → IsAmong part (parts_on way node) → IsAmong part ks ⊎ IsAmong part ws
  pub only : (n : ℕ) → IsAmong n ks → IsReached ns way top n
  pub under : (n : ℕ) → IsAmong n ws → IsReached ns way top n
  pub within : (n : ℕ) → IsAmong n ws → n < length ns

module _ (ns : List Node) (way : Way) (top : ℕ) where
  pub walk_begun : (cs : List Change) (ks ws : List ℕ) → cs ≡ [] → ks ≡ [] → ws ≡ top ∷ [] → top < length ns → IsWalk ns way top cs ks ws
  walk_begun cs ks ws e f g w = record {
    seen = λ n v h. (let both : None ≡ Some v = ap (λ es. value_in es n) (sym e) ∙ h in absurd (cc));
    has_top = inr (subst (IsAmong top) (sym g) (inl refl));
    nodes = λ n h. absurd (subst (IsAmong n) f h);
    parts = λ n node part h. absurd (subst (IsAmong n) f h);
    only = λ n h. absurd (subst (IsAmong n) f h);
    under = λ n h. is_top n (subst (IsAmong n) g h);
    within = λ n h. in_pool n (subst (IsAmong n) g h);
  }
    where
      is_top : (n : ℕ) → IsAmong n (top ∷ []) → IsReached ns way top n
      is_top n (inl h) = subst (IsReached ns way top) (sym h) Itself
      is_top n (inr z) = absurd z

      in_pool : (n : ℕ) → IsAmong n (top ∷ []) → n < length ns
      in_pool n (inl h) = omega (arith, h, w)
      in_pool n (inr z) = absurd z

  pub walk_within : (cs : List Change) (ks all ws : List ℕ) (n : ℕ) → all ≡ ws ++ n ∷ [] → IsWalk ns way top cs ks all → n < length ns
  walk_within cs ks all ws n e walk = walk.within n (subst (IsAmong n) (sym e) (among_push ws n))

  pub walk_done : (cs : List Change) (ks ws : List ℕ) → ws ≡ [] → IsWalk ns way top cs ks ws → AreReached ns way top ks
  walk_done cs ks ws e walk = record {
    has_top = known top walk.has_top;
    nodes = walk.nodes;
    parts = λ n node part h found one. known part (walk.parts n node part h found one);
    only = walk.only;
  }
    where
      known : (n : ℕ) → IsAmong n ks ⊎ IsAmong n ws → IsAmong n ks
      known n (inl h) = h
      known n (inr h) = absurd (subst (IsAmong n) e h)

  module _ (cs : List Change) (ks ws : List ℕ) (n : ℕ) (walk : IsWalk ns way top cs ks (ws ++ n ∷ [])) where
    -- a waiting number is known, or continues to wait
    still : (ls us : List ℕ) → IsAmong n ls → ((m : ℕ) → IsAmong m ks → IsAmong m ls) → ((m : ℕ) → IsAmong m ws → IsAmong m us) → (m : ℕ) → IsAmong m ks ⊎ IsAmong m (ws ++ n ∷ []) → IsAmong m ls ⊎ IsAmong m us
    still ls us now more wait m (inl h) = inl (more m h)
    still ls us now more wait m (inr h) = go (among_push_cases m n ws h)
      where
        go : IsAmong m ws ⊎ (m ≡ n) → IsAmong m ls ⊎ IsAmong m us
        go (inl k) = inr (wait m k)
        go (inr e) = inl (subst (λ k. IsAmong k ls) (sym e) now)

    passed : IsAmong n ks → IsWalk ns way top cs ks ws
    passed known = record {
      seen = walk.seen;
      has_top = still ks ws known (λ m h. h) (λ m h. h) top walk.has_top;
      nodes = walk.nodes;
      parts = λ m node part h found one. still ks ws known (λ k g. g) (λ k g. g) part (walk.parts m node part h found one);
      only = walk.only;
      under = λ m h. walk.under m (among_first m ws (n ∷ []) h);
      within = λ m h. walk.within m (among_first m ws (n ∷ []) h);
    }

    module _ (none : value_in cs n ≡ None) (node : Node) (made : IsMade ns n node) where
      unmarked_yet : is_at_most (value_in cs n) 0 ≡ false
      unmarked_yet = ap (λ o. is_at_most o 0) none

      here : IsReached ns way top n
      here = walk.under n (among_push ws n)

      visited : IsWalk ns way top (cs ++ change_of cs n 0 ∷ []) (ks ++ n ∷ []) (ws ++ parts_on way node)
      visited = record {
        seen = λ m v e. seen m v (value_cases cs n 0 unmarked_yet m v e);
        has_top = still (ks ++ n ∷ []) (ws ++ parts_on way node) (among_push ks n) (λ m h. among_first m ks (n ∷ []) h) (λ m h. among_first m ws (parts_on way node) h) top walk.has_top;
        nodes = λ m h. nodes m (among_push_cases m n ks h);
        parts = λ m other part h found one. parts m other part found one (among_push_cases m n ks h);
        only = λ m h. only m (among_push_cases m n ks h);
        under = λ m h. under m (among_cases m ws (parts_on way node) h);
        within = λ m h. within m (among_cases m ws (parts_on way node) h);
      }
        where
          seen : (m v : ℕ) → (value_in cs m ≡ Some v) ⊎ ((m ≡ n) × (v ≡ 0)) → IsAmong m (ks ++ n ∷ [])
          seen m v (inl h) = among_first m ks (n ∷ []) (walk.seen m v h)
          seen m v (inr h) = subst (λ k. IsAmong k (ks ++ n ∷ [])) (sym h.0) (among_push ks n)

          nodes : (m : ℕ) → IsAmong m ks ⊎ (m ≡ n) → IsNode ns m
          nodes m (inl h) = walk.nodes m h
          nodes m (inr e) = subst (IsNode ns) (sym e) (record { node = node; made = made })

          parts : (m : ℕ) (other : Node) (part : ℕ) → slice_get ns m ≡ Some other → IsAmong part (parts_on way other) → IsAmong m ks ⊎ (m ≡ n) → IsAmong part (ks ++ n ∷ []) ⊎ IsAmong part (ws ++ parts_on way node)
          parts m other part found one (inl h) =
              still (ks ++ n ∷ []) (ws ++ parts_on way node) (among_push ks n) (λ k g. among_first k ks (n ∷ []) g) (λ k g. among_first k ws (parts_on way node) g) part (walk.parts m other part h found one)
          parts m other part found one (inr e) =
              let both : Some other ≡ Some node = sym found ∙ ap (slice_get ns) e ∙ made.found in
              let same : other ≡ node = cc in
              inr (among_last part ws (parts_on way node) (subst (λ o. IsAmong part (parts_on way o)) same one))

          only : (m : ℕ) → IsAmong m ks ⊎ (m ≡ n) → IsReached ns way top m
          only m (inl h) = walk.only m h
          only m (inr e) = subst (IsReached ns way top) (sym e) here

          under : (m : ℕ) → IsAmong m ws ⊎ IsAmong m (parts_on way node) → IsReached ns way top m
          under m (inl h) = walk.under m (among_first m ws (n ∷ []) h)
          under m (inr h) = Below n node m here made h

          within : (m : ℕ) → IsAmong m ws ⊎ IsAmong m (parts_on way node) → m < length ns
          within m (inl h) = walk.within m (among_first m ws (n ∷ []) h)
          within m (inr h) =
              let less = (are_parts ns way n node made.parts).earlier m h in
              let inside = slice_get_within ns n node made.found in
              omega (arith, less, inside)

  pub walk_next : (cs ds : List Change) (ks ls all ws us : List ℕ) (n : ℕ) → all ≡ ws ++ n ∷ [] → IsWalk ns way top cs ks all → IsTurn ns way n cs ks ws ds ls us → IsWalk ns way top ds ls us
  walk_next cs ds ks ls all ws us n e walk (inl turn) =
      let here = passed cs ks ws n (subst (IsWalk ns way top cs ks) e walk) (walk.seen n turn.value turn.seen) in
      subst (λ xs. IsWalk ns way top xs ls us) (sym turn.same) (subst (λ xs. IsWalk ns way top cs xs us) (sym turn.numbers) (subst (IsWalk ns way top cs ks) (sym turn.waiting) here))
  walk_next cs ds ks ls all ws us n e walk (inr turn) =
      let here = visited cs ks ws n (subst (IsWalk ns way top cs ks) e walk) turn.unseen turn.node turn.made in
      subst (λ xs. IsWalk ns way top xs ls us) (sym turn.is) (subst (λ xs. IsWalk ns way top (cs ++ change_of cs n 0 ∷ []) xs us) (sym turn.numbers) (subst (IsWalk ns way top (cs ++ change_of cs n 0 ∷ []) (ks ++ n ∷ [])) (sym turn.waiting) here))

  -- the measure of the walk decreases
  pub walk_falls : (cs ds : List Change) (ks ls all ws us : List ℕ) (n : ℕ) → all ≡ ws ++ n ∷ [] → n < length ns → IsTurn ns way n cs ks ws ds ls us → 4 * unmarked ds 0 (length ns) + length us < 4 * unmarked cs 0 (length ns) + length all
  walk_falls cs ds ks ls all ws us n e w (inl turn) =
      let a : length all ≡ length ws + 1 = ap length e ∙ length_push ws n in
      let b : length us ≡ length ws = ap length turn.waiting in
      let c : unmarked ds 0 (length ns) ≡ unmarked cs 0 (length ns) = ap (λ xs. unmarked xs 0 (length ns)) turn.same in
      omega (arith, a, b, c)
  walk_falls cs ds ks ls all ws us n e w (inr turn) =
      let a : length all ≡ length ws + 1 = ap length e ∙ length_push ws n in
      let b : length us ≡ length ws + length (parts_on way turn.node) = ap length turn.waiting ∙ length-append ws (parts_on way turn.node) in
      let c : unmarked ds 0 (length ns) ≡ unmarked (cs ++ change_of cs n 0 ∷ []) 0 (length ns) = ap (λ xs. unmarked xs 0 (length ns)) turn.is in
      let d = fewer cs n 0 (ap (λ o. is_at_most o 0) turn.unseen) (length ns) w in
      let few = (are_parts ns way n turn.node turn.made.parts).few in
      omega (arith, a, b, c, d, few)
