-- Some substitution is consistent with the recorded matches: a variable has the target of its number, or any term.
use Rattle.std.proofs.Common.{◌≡◌, ◌⊎◌, inl, inr, ℕ, zero, suc, ◌<◌, ◌≤◌, Bool, true, false, cond, eqb, List, [], ◌∷◌, length, Option, Some, None, refl, sym, ap, ◌∙◌, subst, arith}
use Rattle.std.specs.Prelude.{All, Contains}
use Rattle.std.proofs.lemmas.Bool.{eqb-true, eq-eqb}
use Rattle.std.proofs.lemmas.List.Elements.{All-contains}
use Rattle.std.proofs.lemmas.Option.{slice_get_within}
use Rattle.fol.specs.FormulaData.{TermData, VarTerm, NothingTerm}
use Rattle.substitution.specs.Free.{free_in}
use Rattle.term_pool.specs.Items.{Item, TermItem, sort_of}
use Rattle.term_pool.specs.Pools.{item_at, item_of, items, IsMade, HasParts, IsOneNumber}
use Rattle.term_pool.specs.declared.node.Leaf.TheVariants.{Var}
use Rattle.term_pool.specs.declared.node.Two.{Two}
use Rattle.term_pool.specs.declared.node.Two.TheVariants.{Pack, Field, Is, Quantify}
use Rattle.term_pool.specs.declared.node.Three.{Three}
use Rattle.term_pool.specs.declared.node.Three.TheVariants.{SetField, If}
use Rattle.term_pool.specs.declared.node.Node.{Node}
use Rattle.term_pool.specs.declared.node.Node.TheVariants.{Leaf as LeafNode, One as OneNode, Two as TwoNode, Three as ThreeNode}
use Rattle.term_pool.proofs.ShapeLemmas.{a_term}
use Rattle.certificates.specs.Match.{IsFilled, OfVariable}
use Rattle.tableau.specs.Logs.{value_in}
use Rattle.tableau.specs.declared.log.Change.{Change}
use Rattle.ematching.specs.Numbers.{IsAmong, AreAll, term_at, formula_at}
use Rattle.ematching.specs.Walks.{free_in_item, free_parts}
use Rattle.ematching.specs.Fits.{IsFilledItem, refilled, asked, condition_of, IsClearNode, IsBoundNode, AreTaken, Whole, ByParts, IsPatternSort, AreKept, IsKeptPair, IsFilling, Meets}
use Rattle.ematching.specs.Joins.{IsKept}
use Rattle.ematching.proofs.WalkLemmas.{are_free_parts}
use Rattle.ematching.proofs.FreeLemmas.{HasFree, free_down, formula_free}
use Rattle.ematching.proofs.FitLemmas.{assembled, parts_later}
use Rattle.ematching.proofs.ConditionLemmas.{condition_number}

-- ---- lists

pub all_of : {X : Type 0} (P : X → Type 0) (xs : List X) → ((x : X) → IsAmong x xs → P x) → AreAll P xs
all_of P [] h = tt
all_of P (x ∷ xs) h = (h x (inl refl), all_of P xs (λ y a. h y (inr a)))

-- ---- nodes

pub record IsBoundVariable (bound : List ℕ) (l : Node) : Type 0 where
  pub variable : ℕ
  pub is : l ≡ LeafNode (Var variable)
  pub is_bound : Contains bound variable

bound_variable : (bound : List ℕ) (l : Node) → IsBoundNode bound l → IsBoundVariable bound l
bound_variable bound (LeafNode (Var x)) h = record { variable = x; is = refl; is_bound = h }
bound_variable bound _ h = absurd h

-- a part that must match comes before its node
abbrev IsEarlier : ℕ → ℕ × ℕ → Type 0
IsEarlier n p = p.0 < n

earlier_of_two : (ns : List Node) (n : ℕ) (h : Two) (a b : ℕ) (r : Node) → HasParts ns n (TwoNode h a b) → AreAll (IsEarlier n) (asked (TwoNode h a b) r)
earlier_of_two ns n Pack a b (TwoNode k c d) p = (p.1.earlier, tt)
earlier_of_two ns n (Field i) a b (TwoNode k c d) p = (p.1.earlier, tt)
earlier_of_two ns n Is a b (TwoNode k c d) p = (p.1.earlier, tt)
earlier_of_two ns n h a b (TwoNode k c d) p = (p.0.earlier, (p.1.earlier, tt))
earlier_of_two ns n h a b r p = tt

earlier_of_three : (ns : List Node) (n : ℕ) (h : Three) (a b c : ℕ) (r : Node) → HasParts ns n (ThreeNode h a b c) → AreAll (IsEarlier n) (asked (ThreeNode h a b c) r)
earlier_of_three ns n (SetField i) a b c (ThreeNode k x y z) p = (p.1.earlier, (p.2.earlier, tt))
earlier_of_three ns n If a b c (ThreeNode k x y z) p = (p.1.earlier, (p.2.earlier, tt))
earlier_of_three ns n h a b c (ThreeNode k x y z) p = (p.0.earlier, (p.1.earlier, (p.2.earlier, tt)))
earlier_of_three ns n h a b c r p = tt

asked_earlier : (ns : List Node) (n : ℕ) (l r : Node) → HasParts ns n l → AreAll (IsEarlier n) (asked l r)
asked_earlier ns n (LeafNode h) r p = tt
asked_earlier ns n (OneNode h a) (OneNode k b) p = (p.earlier, tt)
asked_earlier ns n (OneNode h a) r p = tt
asked_earlier ns n (TwoNode h a b) r p = earlier_of_two ns n h a b r p
asked_earlier ns n (ThreeNode h a b c) r p = earlier_of_three ns n h a b c r p

-- the target of the part is one of the pairs
record IsAsked (part : ℕ) (ps : List (ℕ × ℕ)) : Type 0 where
  target : ℕ
  among : IsAmong {X = ℕ × ℕ} (part, target) ps

first_asked : (p a b : ℕ) (ps : List (ℕ × ℕ)) → p ≡ a → IsAsked p ((a, b) ∷ ps)
first_asked p a b ps e = record { target = b; among = inl (λ i. (e i, b)) }

next_asked : (p : ℕ) (q : ℕ × ℕ) (ps : List (ℕ × ℕ)) → IsAsked p ps → IsAsked p (q ∷ ps)
next_asked p q ps h = record { target = h.target; among = inr h.among }

one_asked : (p a b : ℕ) → IsAmong p (a ∷ []) → IsAsked p ((a, b) ∷ [])
one_asked p a b (inl e) = first_asked p a b [] e
one_asked p a b (inr z) = absurd z

two_asked : (p a b c d : ℕ) → IsAmong p (a ∷ c ∷ []) → IsAsked p ((a, b) ∷ (c, d) ∷ [])
two_asked p a b c d (inl e) = first_asked p a b ((c, d) ∷ []) e
two_asked p a b c d (inr h) = next_asked p (a, b) ((c, d) ∷ []) (one_asked p c d h)

three_asked : (p a b c d e f : ℕ) → IsAmong p (a ∷ c ∷ e ∷ []) → IsAsked p ((a, b) ∷ (c, d) ∷ (e, f) ∷ [])
three_asked p a b c d e f (inl g) = first_asked p a b ((c, d) ∷ (e, f) ∷ []) g
three_asked p a b c d e f (inr h) = next_asked p (a, b) ((c, d) ∷ (e, f) ∷ []) (two_asked p c d e f h)

-- a part in which the variable may be free must match, or is the condition of an `If`
module _ (x : ℕ) (xs : List Item) where
  covered_two : (h : Two) (a b : ℕ) (k : Two) (c d p : ℕ) → IsPatternSort (sort_of (item_of xs (TwoNode h a b))) → IsAmong p (free_parts x (TwoNode h a b)) → IsAsked p (asked (TwoNode h a b) (TwoNode k c d))
  covered_two Pack a b k c d p s h = one_asked p b d h
  covered_two (Field i) a b k c d p s h = one_asked p b d h
  covered_two Is a b k c d p s h = one_asked p b d h
  covered_two (Quantify o n) a b k c d p s h = absurd s
  covered_two g a b k c d p s h = two_asked p a c b d h

  covered_if : (a b c k l m p : ℕ) → IsAmong p (a ∷ b ∷ c ∷ []) → IsAsked p ((b, l) ∷ (c, m) ∷ []) ⊎ (condition_of (ThreeNode If a b c) ≡ Some p)
  covered_if a b c k l m p (inl e) = inr (ap Some (sym e))
  covered_if a b c k l m p (inr h) = inl (two_asked p b l c m h)

  covered_three : (h : Three) (a b c : ℕ) (g : Three) (k l m p : ℕ) → IsAmong p (free_parts x (ThreeNode h a b c)) → IsAsked p (asked (ThreeNode h a b c) (ThreeNode g k l m)) ⊎ (condition_of (ThreeNode h a b c) ≡ Some p)
  covered_three (SetField i) a b c g k l m p h = inl (two_asked p b l c m h)
  covered_three If a b c g k l m p h = covered_if a b c k l m p h
  covered_three f a b c g k l m p h = inl (three_asked p a k b l c m h)

  covered : (l r : Node) (p : ℕ) → IsPatternSort (sort_of (item_of xs l)) → refilled l r ≡ r → IsAmong p (free_parts x l) → IsAsked p (asked l r) ⊎ (condition_of l ≡ Some p)
  covered (LeafNode g) r p s e h = absurd h
  covered (OneNode g a) (OneNode k b) p s e h = inl (one_asked p a b h)
  covered (OneNode g a) r p s e h = absurd (cc)
  covered (TwoNode Pack a b) (TwoNode k c d) p s e h = inl (covered_two Pack a b k c d p s h)
  covered (TwoNode g a b) (TwoNode k c d) p s e h = inl (covered_two g a b k c d p s h)
  covered (TwoNode g a b) r p s e h = absurd (cc)
  covered (ThreeNode If a b c) (ThreeNode k u v w) p s e h = covered_three If a b c k u v w p h
  covered (ThreeNode g a b c) (ThreeNode k u v w) p s e h = covered_three g a b c k u v w p h
  covered (ThreeNode g a b c) r p s e h = absurd (cc)

clear_condition : (ns : List Node) (bound : List ℕ) (l : Node) (a : ℕ) → condition_of l ≡ Some a → IsClearNode ns bound l → All (λ n. free_in n (formula_at ns a) ≡ false) bound
clear_condition ns bound (ThreeNode If b c d) a e h = (let same : b ≡ a = cc in subst (λ k. All (λ n. free_in n (formula_at ns k) ≡ false) bound) same h)
clear_condition ns bound _ a e h = absurd (cc)

-- ---- recorded matches

module _ (ns : List Node) (one : IsOneNumber ns) (bound : List ℕ) (cs : List Change) (filling : IsFilling ns bound cs []) where
  abbrev is_var : ℕ → Item → Bool
  is_var y (TermItem (VarTerm n)) = eqb y n
  is_var y _ = false

  var_item : (y : ℕ) (i : Item) → is_var y i ≡ true → i ≡ TermItem (VarTerm y)
  var_item y (TermItem (VarTerm n)) e = ap (λ m. TermItem (VarTerm m)) (sym (eqb-true y n e))
  var_item y _ e = absurd (cc)

  item_var : (y : ℕ) (i : Item) → i ≡ TermItem (VarTerm y) → is_var y i ≡ true
  item_var y i e = ap (is_var y) e ∙ eq-eqb y y refl

  abbrev kept_term : Option ℕ → TermData
  kept_term None = NothingTerm
  kept_term (Some t) = term_at ns t

  -- by the first numbers
  abbrev assigned_below : ℕ → ℕ → TermData
  assigned_below zero y = NothingTerm
  assigned_below (suc k) y = cond (is_var y (item_at ns k)) (kept_term (value_in cs k)) (assigned_below k y)

  abbrev pub assigned : ℕ → TermData
  assigned y = assigned_below (length ns) y

  below_is : (k y n : ℕ) → n < k → k ≤ length ns → item_at ns n ≡ TermItem (VarTerm y) → assigned_below k y ≡ kept_term (value_in cs n)
  below_is zero y n w v e = absurd (omega arith)
  below_is (suc k) y n w v e = go (is_var y (item_at ns k)) refl (λ u. below_is k y n u (omega (arith, v)) e)
    where
      go : (b : Bool) → is_var y (item_at ns k) ≡ b → (n < k → assigned_below k y ≡ kept_term (value_in cs n)) → cond (is_var y (item_at ns k)) (kept_term (value_in cs k)) (assigned_below k y) ≡ kept_term (value_in cs n)
      go true f rest =
          let same : k ≡ n = one.one k n (omega (arith, v)) (omega (arith, w, v)) (var_item y (item_at ns k) f ∙ sym e) in
          ap (λ b. cond b (kept_term (value_in cs k)) (assigned_below k y)) f ∙ ap (λ j. kept_term (value_in cs j)) same
      go false f rest =
          let other : k ≡ n → ⊥ = λ g. (let both : true ≡ false = sym (item_var y (item_at ns k) (ap (item_at ns) g ∙ e)) ∙ f in absurd (cc)) in
          ap (λ b. cond b (kept_term (value_in cs k)) (assigned_below k y)) f ∙ rest (omega (arith, w, other))

  pub assigned_is : (y n t : ℕ) → item_at ns n ≡ TermItem (VarTerm y) → value_in cs n ≡ Some t → assigned y ≡ term_at ns t
  assigned_is y n t e f = below_is (length ns) y n (filling.each n t f).pair.pattern_within (omega arith) e ∙ ap kept_term f

  -- a pattern that is a bound variable
  whole_met : (p t : ℕ) → value_in cs p ≡ Some t → (l : Node) → IsMade ns p l → IsBoundVariable bound l → sort_of (item_at ns t) ≡ sort_of (item_at ns p) → IsFilledItem bound assigned (item_at ns p) (item_at ns t)
  whole_met p t e l made h same =
      let is : item_at ns p ≡ TermItem (VarTerm h.variable) = made.item ∙ ap (item_of (items ns)) h.is in
      let target : TermItem (term_at ns t) ≡ item_at ns t = a_term (item_at ns t) (same ∙ ap sort_of is) in
      let filled : IsFilled bound assigned (VarTerm h.variable) (term_at ns t) = subst (IsFilled bound assigned (VarTerm h.variable)) (assigned_is h.variable p t is e) (OfVariable h.variable h.is_bound) in
      subst (λ i. IsFilledItem bound assigned i (item_at ns t)) (sym is) (subst (IsFilledItem bound assigned (TermItem (VarTerm h.variable))) target filled)

  abbrev Filled : ℕ × ℕ → Type 0
  Filled q = IsFilledItem bound assigned (item_at ns q.0) (item_at ns q.1)

  met : (k p t : ℕ) → p < k → value_in cs p ≡ Some t → IsFilledItem bound assigned (item_at ns p) (item_at ns t)
  met zero p t w e = absurd (omega arith)
  met (suc k) p t w e = go pair.parts pair.taken pair.kept (λ a b v f. met k a b v f)
    where
      pair : IsKeptPair ns bound cs [] p t
      pair = filling.each p t e

      go : (parts : List (ℕ × ℕ)) → AreTaken ns bound pair.left pair.right parts → AreKept cs [] parts → ((a b : ℕ) → a < k → value_in cs a ≡ Some b → IsFilledItem bound assigned (item_at ns a) (item_at ns b)) → IsFilledItem bound assigned (item_at ns p) (item_at ns t)
      go _ (Whole h) kept rest = whole_met p t e pair.left pair.is_left (bound_variable bound pair.left h) pair.pair.same_sort
      go _ (ByParts h) kept rest =
          let earlier = asked_earlier ns p pair.left pair.right pair.is_left.parts in
          let parts : AreAll Filled (asked pair.left pair.right) = all_of Filled (asked pair.left pair.right) (λ q a. each q a (kept.each q.0 q.1 a) earlier) in
          let sort : IsPatternSort (sort_of (item_of (items ns) pair.left)) = subst (λ i. IsPatternSort (sort_of i)) pair.is_left.item pair.pair.sort in
          let whole = assembled ns bound assigned p t pair.left pair.right pair.is_left.parts pair.is_right.parts sort h parts in
          subst (λ i. IsFilledItem bound assigned i (item_at ns t)) (sym pair.is_left.item) (subst (IsFilledItem bound assigned (item_of (items ns) pair.left)) (sym pair.is_right.item) whole)
        where
          less : (ps : List (ℕ × ℕ)) (q : ℕ × ℕ) → AreAll (IsEarlier p) ps → IsAmong q ps → q.0 < p
          less [] q h a = absurd a
          less (r ∷ ps) q h (inl f) = subst (IsEarlier p) (sym f) h.0
          less (r ∷ ps) q h (inr a) = less ps q h.1 a

          each : (q : ℕ × ℕ) → IsAmong q (asked pair.left pair.right) → (value_in cs q.0 ≡ Some q.1) ⊎ IsAmong {X = ℕ × ℕ} (q.0, q.1) [] → AreAll (IsEarlier p) (asked pair.left pair.right) → Filled q
          each q a (inl f) earlier = (let v : q.0 < p = less (asked pair.left pair.right) q earlier a in rest q.0 q.1 (omega (arith, v, w)) f)
          each q a (inr z) earlier = absurd z

  pub assigned_meets : Meets ns bound assigned cs
  assigned_meets = record { each = λ p t e. met (suc p) p t (omega arith) e }

  -- ---- a bound variable that is free in a recorded pattern is recorded itself

  module _ (x n : ℕ) (number : IsMade ns n (LeafNode (Var x))) (is_bound : Contains bound x) where
    variable_kept : (k p t : ℕ) → p < k → value_in cs p ≡ Some t → free_in_item x (item_at ns p) ≡ true → IsKept cs n
    variable_kept zero p t w e free = absurd (omega arith)
    variable_kept (suc k) p t w e free = go (free_down x ns p pair.left pair.is_left free) (λ a b v f g. variable_kept k a b v f g)
      where
        pair : IsKeptPair ns bound cs [] p t
        pair = filling.each p t e

        by_part : HasFree x ns (free_parts x pair.left) → (parts : List (ℕ × ℕ)) → AreTaken ns bound pair.left pair.right parts → AreKept cs [] parts → ((a b : ℕ) → a < k → value_in cs a ≡ Some b → free_in_item x (item_at ns a) ≡ true → IsKept cs n) → IsKept cs n
        by_part h _ (Whole b) kept rest = (let v = bound_variable bound pair.left b in absurd (subst (λ l. IsAmong h.part (free_parts x l)) v.is h.among))
        by_part h _ (ByParts taken) kept rest = pick (covered x (items ns) pair.left pair.right h.part (subst (λ i. IsPatternSort (sort_of i)) pair.is_left.item pair.pair.sort) taken.same h.among)
          where
            kept_part : (b : ℕ) → (value_in cs h.part ≡ Some b) ⊎ IsAmong {X = ℕ × ℕ} (h.part, b) [] → IsKept cs n
            kept_part b (inl f) = (let v = (are_free_parts ns x p pair.left pair.is_left.parts).earlier h.part h.among in rest h.part b (omega (arith, v, w)) f h.free)
            kept_part b (inr z) = absurd z

            pick : IsAsked h.part (asked pair.left pair.right) ⊎ (condition_of pair.left ≡ Some h.part) → IsKept cs n
            pick (inl a) = kept_part a.target (kept.each h.part a.target a.among)
            pick (inr c) =
                let formula = condition_number ns pair.left h.part (parts_later ns p pair.left pair.pair.pattern_within pair.is_left.parts) c in
                let clear : free_in x (formula_at ns h.part) ≡ false = All-contains (λ m. free_in m (formula_at ns h.part) ≡ false) bound x (clear_condition ns bound pair.left h.part c taken.clear) is_bound in
                let is : free_in x (formula_at ns h.part) ≡ true = sym (formula_free x (item_at ns h.part) formula.sort) ∙ h.free in
                absurd (cc)

        go : (pair.left ≡ LeafNode (Var x)) ⊎ HasFree x ns (free_parts x pair.left) → ((a b : ℕ) → a < k → value_in cs a ≡ Some b → free_in_item x (item_at ns a) ≡ true → IsKept cs n) → IsKept cs n
        go (inl is) rest =
            let same : p ≡ n = one.one p n pair.pair.pattern_within (slice_get_within ns n (LeafNode (Var x)) number.found) (pair.is_left.item ∙ ap (item_of (items ns)) is ∙ sym number.item) in
            record { value = t; is = ap (value_in cs) (sym same) ∙ e }
        go (inr h) rest = by_part h pair.parts pair.taken pair.kept rest

    pub free_kept : (p t : ℕ) → value_in cs p ≡ Some t → free_in_item x (item_at ns p) ≡ true → IsKept cs n
    free_kept p t e free = variable_kept (suc p) p t (omega arith) e free
