-- Matches of a term, by its form; a pattern matches at most one term by a substitution.
use Rattle.std.proofs.Common.{◌≡◌, ℕ, false, List, [], ◌∷◌, get_or, refl, sym, ap, ◌∙◌, subst}
use Rattle.std.specs.Prelude.{All, Contains}
use Rattle.std.proofs.lemmas.List.Elements.{All-contains, All-from_get_or, Contains-get_or}
use Rattle.fol.specs.FormulaData.{TermData, VarTerm, ConstantTerm, UnaryTerm, BinaryTerm, TernaryTerm, PackTerm, FieldTerm, SetFieldTerm, IfTerm}
use Rattle.substitution.specs.Free.{free_in}
use Rattle.certificates.specs.BranchesParts.{parts_of_term, with_parts}
use Rattle.certificates.specs.Match.{IsFreeCondition, IsFilled, OfVariable, OfOther, OfParts, AreFilled, NoneFilled, MoreFilled}

module _ (bound : List ℕ) (at : ℕ → TermData) where
  -- the parts of a term that is no variable
  pub record AreFilledParts (t u : TermData) : Type 0 where
    pub clear : IsFreeCondition bound t
    pub head : with_parts t (parts_of_term u) ≡ u
    pub parts : AreFilled bound at (parts_of_term t) (parts_of_term u)

  pub by_parts : (t u : TermData) → IsFilled bound at t u → ((n : ℕ) → t ≡ VarTerm n → ⊥) → AreFilledParts t u
  by_parts _ _ (OfVariable n c) h = absurd (h n refl)
  by_parts _ _ (OfOther n c) h = absurd (h n refl)
  by_parts _ _ (OfParts t u n c e f) h = record { clear = c; head = e; parts = f }

  pub by_variable : (t u : TermData) (x : ℕ) → IsFilled bound at t u → t ≡ VarTerm x → Contains bound x → at x ≡ u
  by_variable _ _ x (OfVariable n c) e b = (let same : n ≡ x = cc in ap at (sym same))
  by_variable _ _ x (OfOther n c) e b = (let same : n ≡ x = cc in absurd (c (subst (Contains bound) (sym same) b)))
  by_variable _ _ x (OfParts t u n c h f) e b = absurd (n x e)

  pub by_other : (t u : TermData) (x : ℕ) → IsFilled bound at t u → t ≡ VarTerm x → (Contains bound x → ⊥) → VarTerm x ≡ u
  by_other _ _ x (OfVariable n c) e b = (let same : n ≡ x = cc in absurd (b (subst (Contains bound) same c)))
  by_other _ _ x (OfOther n c) e b = (let same : n ≡ x = cc in ap VarTerm (sym same))
  by_other _ _ x (OfParts t u n c h f) e b = absurd (n x e)

  pub none_filled : (us : List TermData) → AreFilled bound at [] us → us ≡ []
  none_filled _ NoneFilled = refl

  pub record IsFirstFilled (t : TermData) (ts us : List TermData) : Type 0 where
    pub first : TermData
    pub rest : List TermData
    pub is : us ≡ first ∷ rest
    pub filled : IsFilled bound at t first
    pub rest_filled : AreFilled bound at ts rest

  pub first_filled : (t : TermData) (ts us : List TermData) → AreFilled bound at (t ∷ ts) us → IsFirstFilled t ts us
  first_filled t ts _ (MoreFilled _ u _ us h hs) = record { first = u; rest = us; is = refl; filled = h; rest_filled = hs }

  mutual
    pub one_filling : (t u v : TermData) → IsFilled bound at t u → IsFilled bound at t v → u ≡ v
    one_filling _ _ v (OfVariable n c) h = by_variable (VarTerm n) v n h refl c
    one_filling _ _ v (OfOther n c) h = by_other (VarTerm n) v n h refl c
    one_filling _ _ v (OfParts t u n c e f) h =
        let p = by_parts t v h n in
        sym e ∙ ap (with_parts t) (one_filling_of_list (parts_of_term t) (parts_of_term u) (parts_of_term v) f p.parts) ∙ p.head

    pub one_filling_of_list : (ts us vs : List TermData) → AreFilled bound at ts us → AreFilled bound at ts vs → us ≡ vs
    one_filling_of_list _ _ vs NoneFilled h = sym (none_filled vs h)
    one_filling_of_list _ _ vs (MoreFilled t u ts us h hs) g =
        let p = first_filled t ts vs g in
        (λ i. one_filling t u p.first h p.filled i ∷ one_filling_of_list ts us p.rest hs p.rest_filled i) ∙ sym p.is

pub all_from : (P : ℕ → Type 0) (xs : List ℕ) → ((n : ℕ) → Contains xs n → P n) → All P xs
all_from P xs h = All-from_get_or P xs 0 (λ i w. h (get_or xs i 0) (Contains-get_or xs i 0 w))

-- the same variables in another list
module _ (xs ys : List ℕ) (to : (n : ℕ) → Contains xs n → Contains ys n) (from : (n : ℕ) → Contains ys n → Contains xs n) (at : ℕ → TermData) where
  condition : (t : TermData) → IsFreeCondition xs t → IsFreeCondition ys t
  condition (VarTerm n) c = tt
  condition (ConstantTerm k) c = tt
  condition (UnaryTerm o t) c = tt
  condition (BinaryTerm o t u) c = tt
  condition (TernaryTerm o t u v) c = tt
  condition (PackTerm a ts) c = tt
  condition (FieldTerm a k t) c = tt
  condition (SetFieldTerm a k t u) c = tt
  condition (IfTerm p t u) c = all_from (λ m. free_in m p ≡ false) ys (λ n h. All-contains (λ m. free_in m p ≡ false) xs n c (from n h))

  mutual
    pub filled_with : (t u : TermData) → IsFilled xs at t u → IsFilled ys at t u
    filled_with _ _ (OfVariable n c) = OfVariable n (to n c)
    filled_with _ _ (OfOther n c) = OfOther n (λ h. c (from n h))
    filled_with _ _ (OfParts t u n c e f) = OfParts t u n (condition t c) e (list_filled_with (parts_of_term t) (parts_of_term u) f)

    pub list_filled_with : (ts us : List TermData) → AreFilled xs at ts us → AreFilled ys at ts us
    list_filled_with _ _ NoneFilled = NoneFilled
    list_filled_with _ _ (MoreFilled t u ts us h hs) = MoreFilled t u ts us (filled_with t u h) (list_filled_with ts us hs)
