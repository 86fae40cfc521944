-- The walk below an item: no seen number is the variable, and its open parts were seen or wait.
use Rattle.std.proofs.Common.{◌≡◌, ◌⊎◌, inl, inr, ℕ, zero, suc, ◌+◌, ◌*◌, ◌<◌, Bool, true, false, List, [], ◌∷◌, ◌++◌, length, refl, sym, ap, ◌∙◌, subst, arith, length-append}
use Rattle.std.proofs.lemmas.Bool.{cases_eq}
use Rattle.term_pool.specs.Pools.{item_at, IsMade}
use Rattle.term_pool.specs.declared.node.Node.{Node}
use Rattle.term_pool.specs.Free.{free_in_item, is_variable, open_parts, IsOneOf, IsAdded, IsVisit, Passed, Found, Opened}
use Rattle.term_pool.proofs.MemberLemmas.{one_of_first, one_of_last, one_of_cases, other, kept, unseen, same_unseen, fewer}
use Rattle.term_pool.proofs.FreeLemmas.{free_up, quiet_here, few_parts, earlier}

abbrev IsKnown : (ℕ → Bool) → List ℕ → ℕ → Type 0
IsKnown seen ws p = (seen p ≡ true) ⊎ IsOneOf p ws

record IsClosedAt (ns : List Node) (v : ℕ) (seen : ℕ → Bool) (ws : List ℕ) (n : ℕ) : Type 0 where
  node : Node
  made : IsMade ns n node
  is_other : is_variable v node ≡ false
  parts : (p : ℕ) → IsOneOf p (open_parts v node) → IsKnown seen ws p

pub record IsWalk (ns : List Node) (v top : ℕ) (seen : ℕ → Bool) (ws : List ℕ) : Type 0 where
  pub within : (w : ℕ) → IsOneOf w ws → w < length ns
  pub up : (w : ℕ) → IsOneOf w ws → free_in_item v (item_at ns w) ≡ true → free_in_item v (item_at ns top) ≡ true
  known : IsKnown seen ws top
  closed : (n : ℕ) → seen n ≡ true → IsClosedAt ns v seen ws n

module _ (ns : List Node) (v top : ℕ) where
  pub walk_begun : (seen : ℕ → Bool) (ws : List ℕ) → ws ≡ top ∷ [] → top < length ns → ((k : ℕ) → seen k ≡ false) → IsWalk ns v top seen ws
  walk_begun seen ws e w none = subst (IsWalk ns v top seen) (sym e) (record {
    within = inside;
    up = same;
    known = inr (inl refl);
    closed = λ n h. absurd (let both : true ≡ false = sym h ∙ none n in (cc));
  })
    where
      inside : (k : ℕ) → IsOneOf k (top ∷ []) → k < length ns
      inside k (inl f) = omega (arith, f, w)
      inside k (inr z) = absurd z

      same : (k : ℕ) → IsOneOf k (top ∷ []) → free_in_item v (item_at ns k) ≡ true → free_in_item v (item_at ns top) ≡ true
      same k (inl f) h = ap (λ j. free_in_item v (item_at ns j)) (sym f) ∙ h
      same k (inr z) h = absurd z

  -- the seen items do not have the variable free, if no number waits
  quiet_all : (seen : ℕ → Bool) (ws : List ℕ) → ws ≡ [] → IsWalk ns v top seen ws → (count n : ℕ) → n < count → seen n ≡ true → free_in_item v (item_at ns n) ≡ false
  quiet_all seen ws e walk zero n w s = absurd (omega arith)
  quiet_all seen ws e walk (suc count) n w s =
      let at = walk.closed n s in
      quiet_here v ns n at.node at.made.parts at.made.item at.is_other (λ p one. quiet_all seen ws e walk count p (let l = earlier v ns n at.node p at.made.parts one in omega (arith, l, w)) (was_seen p (at.parts p one)))
    where
      was_seen : (p : ℕ) → IsKnown seen ws p → seen p ≡ true
      was_seen p (inl h) = h
      was_seen p (inr h) = absurd (subst (IsOneOf p) e h)

  pub walk_done : (seen : ℕ → Bool) (ws : List ℕ) → ws ≡ [] → IsWalk ns v top seen ws → free_in_item v (item_at ns top) ≡ false
  walk_done seen ws e walk = go walk.known
    where
      go : IsKnown seen ws top → free_in_item v (item_at ns top) ≡ false
      go (inl s) = quiet_all seen ws e walk (suc top) top (omega arith) s
      go (inr h) = absurd (subst (IsOneOf top) e h)

  pub walk_within : (seen : ℕ → Bool) (all ws : List ℕ) (n : ℕ) → all ≡ ws ++ n ∷ [] → IsWalk ns v top seen all → n < length ns
  walk_within seen all ws n e walk = walk.within n (subst (IsOneOf n) (sym e) (one_of_last n ws (n ∷ []) (inl refl)))

  pub walk_found : (seen also : ℕ → Bool) (all ws us : List ℕ) (n : ℕ) (b : Bool) → b ≡ true → all ≡ ws ++ n ∷ [] → IsWalk ns v top seen all → IsVisit ns v n seen also ws us b → free_in_item v (item_at ns top) ≡ true
  walk_found seen also all ws us n b t e walk (Found h) = walk.up n (subst (IsOneOf n) (sym e) (one_of_last n ws (n ∷ []) (inl refl))) h
  walk_found seen also all ws us n b t e walk (Passed s same i) = absurd (cc)
  walk_found seen also all ws us n b t e walk (Opened node made o s more i) = absurd (cc)

  module _ (seen also : ℕ → Bool) (ws : List ℕ) (n : ℕ) (walk : IsWalk ns v top seen (ws ++ n ∷ [])) where
    -- the number was seen before
    passed : seen n ≡ true → ((k : ℕ) → also k ≡ seen k) → IsWalk ns v top also ws
    passed s same = record {
      within = λ w h. walk.within w (one_of_first w ws (n ∷ []) h);
      up = λ w h. walk.up w (one_of_first w ws (n ∷ []) h);
      known = known top walk.known;
      closed = λ k h. closed k (walk.closed k (sym (same k) ∙ h));
    }
      where
        known : (p : ℕ) → IsKnown seen (ws ++ n ∷ []) p → IsKnown also ws p
        known p (inl h) = inl (same p ∙ h)
        known p (inr h) = go (one_of_cases p ws (n ∷ []) h)
          where
            go : IsOneOf p ws ⊎ IsOneOf p (n ∷ []) → IsKnown also ws p
            go (inl k) = inr k
            go (inr (inl e)) = inl (same p ∙ ap seen e ∙ s)
            go (inr (inr z)) = absurd z

        closed : (k : ℕ) → IsClosedAt ns v seen (ws ++ n ∷ []) k → IsClosedAt ns v also ws k
        closed k at = record { node = at.node; made = at.made; is_other = at.is_other; parts = λ p one. known p (at.parts p one) }

    -- the parts of the number wait
    opened : (node : Node) → IsMade ns n node → is_variable v node ≡ false → IsAdded seen also n → IsWalk ns v top also (ws ++ open_parts v node)
    opened node made o more = record {
      within = λ w h. inside w (one_of_cases w ws (open_parts v node) h);
      up = λ w h f. up w (one_of_cases w ws (open_parts v node) h) f;
      known = known top walk.known;
      closed = λ k h. closed k h (cases_eq n k);
    }
      where
        here : IsOneOf n (ws ++ n ∷ [])
        here = one_of_last n ws (n ∷ []) (inl refl)

        inside : (w : ℕ) → IsOneOf w ws ⊎ IsOneOf w (open_parts v node) → w < length ns
        inside w (inl h) = walk.within w (one_of_first w ws (n ∷ []) h)
        inside w (inr h) = (let l = earlier v ns n node w made.parts h in let m = walk.within n here in omega (arith, l, m))

        up : (w : ℕ) → IsOneOf w ws ⊎ IsOneOf w (open_parts v node) → free_in_item v (item_at ns w) ≡ true → free_in_item v (item_at ns top) ≡ true
        up w (inl h) f = walk.up w (one_of_first w ws (n ∷ []) h) f
        up w (inr h) f = walk.up n here (free_up v ns n node made.parts made.item w h f)

        known : (p : ℕ) → IsKnown seen (ws ++ n ∷ []) p → IsKnown also (ws ++ open_parts v node) p
        known p (inl h) = inl (kept seen also n more p h)
        known p (inr h) = go (one_of_cases p ws (n ∷ []) h)
          where
            go : IsOneOf p ws ⊎ IsOneOf p (n ∷ []) → IsKnown also (ws ++ open_parts v node) p
            go (inl k) = inr (one_of_first p ws (open_parts v node) k)
            go (inr (inl e)) = inl (ap also e ∙ more.is)
            go (inr (inr z)) = absurd z

        closed : (k : ℕ) → also k ≡ true → (n ≡ k) ⊎ (n ≡ k → ⊥) → IsClosedAt ns v also (ws ++ open_parts v node) k
        closed k h (inl e) = subst (IsClosedAt ns v also (ws ++ open_parts v node)) e (record { node = node; made = made; is_other = o; parts = λ p one. inr (one_of_last p ws (open_parts v node) one) })
        closed k h (inr d) =
            let at = walk.closed k (sym (other seen also n more k d) ∙ h) in
            record { node = at.node; made = at.made; is_other = at.is_other; parts = λ p one. known p (at.parts p one) }

  pub walk_next : (seen also : ℕ → Bool) (all ws us : List ℕ) (n : ℕ) (b : Bool) → b ≡ false → all ≡ ws ++ n ∷ [] → IsWalk ns v top seen all → IsVisit ns v n seen also ws us b → IsWalk ns v top also us
  walk_next seen also all ws us n b f e walk (Passed s same i) =
      subst (IsWalk ns v top also) (sym i) (passed seen also ws n (subst (IsWalk ns v top seen) e walk) s same)
  walk_next seen also all ws us n b f e walk (Opened node made o s more i) =
      subst (IsWalk ns v top also) (sym i) (opened seen also ws n (subst (IsWalk ns v top seen) e walk) node made o more)
  walk_next seen also all ws us n b f e walk (Found h) = absurd (cc)

-- fewer numbers are unseen, or fewer wait
pub walk_falls : (ns : List Node) (v : ℕ) (seen also : ℕ → Bool) (all ws us : List ℕ) (n : ℕ) (b : Bool) → b ≡ false → all ≡ ws ++ n ∷ [] → n < length ns → IsVisit ns v n seen also ws us b → 4 * unseen also (length ns) + length us < 4 * unseen seen (length ns) + length all
walk_falls ns v seen also all ws us n b f e w (Passed s same i) =
    let one = ap length e in
    let two = length-append ws (n ∷ []) in
    let three = ap length i in
    let four = same_unseen seen also same (length ns) in
    omega (arith, one, two, three, four)
walk_falls ns v seen also all ws us n b f e w (Opened node made o s more i) =
    let one = ap length e in
    let two = length-append ws (n ∷ []) in
    let three = ap length i in
    let four = length-append ws (open_parts v node) in
    let five = few_parts v node in
    let six = fewer seen also n more (length ns) s w in
    omega (arith, one, two, three, four, five, six)
walk_falls ns v seen also all ws us n b f e w (Found h) = absurd (cc)
