-- The walk that makes the items below another one: the waiting numbers are descending and have no result yet.
use Rattle.std.proofs.Common.{◌≡◌, ◌≢◌, ◌⊎◌, inl, inr, ℕ, zero, suc, ◌+◌, ◌*◌, ◌<◌, ◌≤◌, Bool, true, false, List, [], ◌∷◌, ◌++◌, length, Option, Some, None, refl, sym, ap, ◌∙◌, subst, arith, length-append, nat_eq}
use Rattle.std.proofs.lemmas.Bool.{eqb-true}
use Rattle.std.proofs.lemmas.List.{same_from_push}
use Rattle.term_pool.specs.Items.{TermSort, term_in}
use Rattle.term_pool.specs.Pools.{item_at, HasPart, IsItem, Extends}
use Rattle.term_pool.proofs.ItemLemmas.{item_kept}
use Rattle.term_pool.specs.Put.{put_in_item}
use Rattle.term_pool.specs.declared.node.Node.{Node}
use Rattle.term_pool.specs.Values.{with_put, IsValue, AreValues}
use Rattle.term_pool.specs.declared.pool_substitution.put.Put.{Put}

-- the waiting numbers below the top, and the current number
pub data IsStack (f : ℕ → Option ℕ) (top : ℕ) : List ℕ → ℕ → Type 0 where
  Bottom : f top ≡ None → IsStack f top [] top
  Above : (ws : List ℕ) (n m : ℕ) → IsStack f top ws n → m < n → f m ≡ None → IsStack f top (ws ++ n ∷ []) m

-- the results with one more
pub record IsMore (f g : ℕ → Option ℕ) (n m : ℕ) : Type 0 where
  pub is : g n ≡ Some m
  pub others : (k : ℕ) → k ≢ n → g k ≡ f k

-- the count of the first numbers without a result
abbrev pub one_if_none : Option ℕ → ℕ
one_if_none None = 1
one_if_none (Some m) = 0

abbrev pub without : (ℕ → Option ℕ) → ℕ → ℕ
without f zero = 0
without f (suc n) = one_if_none (f n) + without f n

nil_push : (ws : List ℕ) (n : ℕ) → [] ≡ ws ++ n ∷ [] → ⊥
nil_push [] n e = absurd (cc)
nil_push (w ∷ ws) n e = absurd (cc)

module _ (f : ℕ → Option ℕ) (top : ℕ) where
  pub within : (ws : List ℕ) (n : ℕ) → IsStack f top ws n → n ≤ top
  within _ _ (Bottom e) = omega arith
  within _ _ (Above ws n m s l e) = omega (arith, within ws n s, l)

  pub bottom_is : (ws : List ℕ) (n : ℕ) → IsStack f top ws n → ws ≡ [] → n ≡ top
  bottom_is _ _ (Bottom e) h = refl
  bottom_is _ _ (Above ws n m s l e) h = absurd (nil_push ws n (sym h))

  pub has_none : (ws : List ℕ) (n : ℕ) → IsStack f top ws n → f n ≡ None
  has_none _ _ (Bottom e) = e
  has_none _ _ (Above ws n m s l e) = e

  -- the last waiting number
  pub record IsBelow (ws : List ℕ) (n m : ℕ) : Type 0 where
    pub stack : IsStack f top ws n
    pub less : m < n

  pub popped : (zs : List ℕ) (m : ℕ) → IsStack f top zs m → (ws : List ℕ) (n : ℕ) → zs ≡ ws ++ n ∷ [] → IsBelow ws n m
  popped _ _ (Bottom e) ws n h = absurd (nil_push ws n h)
  popped _ _ (Above us k m s l e) ws n h =
      let same = same_from_push us ws k n h in
      record { stack = subst (λ xs. IsStack f top xs n) same.0 (subst (IsStack f top us) same.1 s); less = subst (λ j. m < j) same.1 l }

  -- a result for a number below all waiting ones
  pub stack_kept : (g : ℕ → Option ℕ) (k v : ℕ) → IsMore f g k v → (ws : List ℕ) (n : ℕ) → IsStack f top ws n → k < n → IsStack g top ws n
  stack_kept g k v more _ _ (Bottom e) w = Bottom (more.others top (λ h. absurd (omega (arith, h, w))) ∙ e)
  stack_kept g k v more _ _ (Above ws n m s l e) w =
      Above ws n m (stack_kept g k v more ws n s (omega (arith, l, w))) l (more.others m (λ h. absurd (omega (arith, h, w))) ∙ e)

-- ---- fewer numbers are without a result

same_without : (f g : ℕ → Option ℕ) (k v n : ℕ) → IsMore f g k v → n ≤ k → without g n ≡ without f n
same_without f g k v zero more w = refl
same_without f g k v (suc n) more w =
    let here : g n ≡ f n = more.others n (λ e. absurd (omega (arith, e, w))) in
    let rest : without g n ≡ without f n = same_without f g k v n more (omega arith) in
    λ i. one_if_none (here i) + rest i

pub fewer : (f g : ℕ → Option ℕ) (k v n : ℕ) → IsMore f g k v → f k ≡ None → k < n → suc (without g n) ≡ without f n
fewer f g k v zero more none w = absurd (omega arith)
fewer f g k v (suc n) more none w = go (λ l. fewer f g k v n more none l) (eq_or_less n k (omega arith))
  where
    eq_or_less : (n k : ℕ) → k ≤ n → (n ≡ k) ⊎ (k < n)
    eq_or_less zero zero l = inl refl
    eq_or_less zero (suc k) l = absurd (omega arith)
    eq_or_less (suc n) zero l = inr (omega arith)
    eq_or_less (suc n) (suc k) l = elim (eq_or_less n k (omega arith)) [ inl e ↦ inl (ap suc e) | inr h ↦ inr (omega arith) ]

    go : (k < n → suc (without g n) ≡ without f n) → (n ≡ k) ⊎ (k < n) → suc (one_if_none (g n) + without g n) ≡ one_if_none (f n) + without f n
    go later (inl e) =
        let now : one_if_none (g n) ≡ 0 = ap one_if_none (ap g e ∙ more.is) in
        let was : one_if_none (f n) ≡ 1 = ap one_if_none (ap f e ∙ none) in
        let rest : without g n ≡ without f n = same_without f g k v n more (omega (arith, e)) in
        omega (arith, now, was, rest)
    go later (inr l) =
        let here : one_if_none (g n) ≡ one_if_none (f n) = ap one_if_none (more.others n (λ e. absurd (omega (arith, e, l)))) in
        let rest : suc (without g n) ≡ without f n = later l in
        omega (arith, here, rest)

-- ---- the measure decreases

pub falls_down : (u K n m : ℕ) → m < n → u * K + m < u * K + n
falls_down u K n m l = omega arith

pub falls_made : (u w K n m : ℕ) → suc u ≡ w → m < K → u * K + m < w * K + n
falls_made u w K n m e l = let same : w * K ≡ u * K + K = ap (λ x. x * K) (sym e) ∙ (omega arith) in omega (arith, same, l)

-- ---- the results so far

pub values_more : (ns : List Node) (p : Put) (f g : ℕ → Option ℕ) (n m : ℕ) → AreValues ns p f → IsMore f g n m → IsValue ns p n m → AreValues ns p g
values_more ns p f g n m values more value = record {
  term = values.term;
  each = λ k l e. go k l e (cases k n);
}
  where
    cases : (k n : ℕ) → (k ≡ n) ⊎ (k ≢ n)
    cases zero zero = inl refl
    cases zero (suc n) = inr (λ e. absurd (omega (arith, e)))
    cases (suc k) zero = inr (λ e. absurd (omega (arith, e)))
    cases (suc k) (suc n) = elim (cases k n) [ inl e ↦ inl (ap suc e) | inr h ↦ inr (λ e. h (omega (arith, e))) ]

    go : (k l : ℕ) → g k ≡ Some l → (k ≡ n) ⊎ (k ≢ n) → IsValue ns p k l
    go k l e (inl h) =
        let both : Some m ≡ Some l = sym more.is ∙ ap g (sym h) ∙ e in
        let same : m ≡ l = cc in
        subst (λ j. IsValue ns p j l) (sym h) (subst (IsValue ns p n) same value)
    go k l e (inr h) = values.each k l (sym (more.others k h) ∙ e)

-- ---- the walk

module _ (ns : List Node) (p : Put) where
  pub none_yet : (f : ℕ → Option ℕ) → HasPart ns (length ns) p.term TermSort → ((n : ℕ) → f n ≡ None) → AreValues ns p f
  none_yet f term none = record { term = term; each = λ n m e. absurd (let both : Some m ≡ None = sym e ∙ none n in (cc)) }

-- the current item was made, and no number waits
pub walk_done : (ns ms : List Node) (p : Put) (top n m : ℕ) → Extends ns ms → HasPart ns (length ns) p.term TermSort → top < length ns → n ≡ top → IsItem ms m (with_put ms p (item_at ms n)) → IsItem ms m (with_put ns p (item_at ns top))
walk_done ns ms p top n m grown term w e made = record {
  within = made.within;
  is = made.is ∙ ap (λ k. with_put ms p (item_at ms k)) e ∙ ap (with_put ms p) (item_kept ns ms grown top w) ∙ ap (λ j. put_in_item p.variable (term_in j) (item_at ns top)) (item_kept ns ms grown p.term term.earlier);
}

-- one more result
pub made_value : (ns ms : List Node) (p : Put) (n m : ℕ) → Extends ns ms → n < length ns → IsItem ms m (with_put ms p (item_at ms n)) → IsValue ms p n m
made_value ns ms p n m grown w made = record { within = (let l = ap length grown.is in omega (arith, l, length-append ns grown.more, w)); is = made }

not_same : (n k : ℕ) → k ≢ n → nat_eq n k ≡ false
not_same n k h = go (nat_eq n k) refl
  where
    go : (b : Bool) → nat_eq n k ≡ b → nat_eq n k ≡ false
    go true e = absurd (h (sym (eqb-true n k e)))
    go false e = e

pub more_of : (f g : ℕ → Option ℕ) (n m : ℕ) → g n ≡ Some m → ((k : ℕ) → nat_eq n k ≡ false → g k ≡ f k) → IsMore f g n m
more_of f g n m e h = record { is = e; others = λ k ne. h k (not_same n k ne) }
