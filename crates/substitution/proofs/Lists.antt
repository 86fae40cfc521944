-- A walk along two lists that compares them item by item.
use Rattle.std.proofs.Common.{◌≡◌, ◌↔◌, ℕ, suc, ◌+◌, ◌<◌, ◌≤◌, List, [], ◌∷◌, length, get_or, drop, Bool, true, false, refl, sym, ap, ◌∙◌, subst, arith, add-one, drop-cons}
use Rattle.std.specs.Prelude.{IsTrue}
use Rattle.std.proofs.Math.ListN.{drop_of_length-le}
use Rattle.base.proofs.TruthValues.{true_is, not_true, holds, fails}
use Rattle.fol.specs.FormulaData.{TermData, TermsData, FormulaData, terms_of, triggers_of, formulas_of}
use Rattle.substitution.specs.Instances.{IsTermInstance, AreTermInstances, AreTriggerInstances, IsInstanceUnder, AreInstances}

module _ {A B : Type 0} (Whole : List A → List B → Type 0) (R : A → B → Type 0) where
  -- a relation of lists is determined by their items
  pub record ByItems : Type 0 where
    pub none : Whole [] []
    pub more : (x : A) (y : B) (xs : List A) (ys : List B) → Whole (x ∷ xs) (y ∷ ys) ↔ (R x y × Whole xs ys)
    pub same_length : (xs : List A) (ys : List B) → Whole xs ys → length xs ≡ length ys

  -- the rests of the lists are related exactly when the lists are
  pub record From (i : ℕ) (xs : List A) (ys : List B) : Type 0 where
    pub rest : Whole (drop i xs) (drop i ys) ↔ Whole xs ys

  pub from_start : (xs : List A) (ys : List B) → From 0 xs ys
  from_start xs ys = record { rest = (λ w. w, λ w. w) }

  module _ (by : ByItems) where
    here : (xs : List A) (ys : List B) (i : ℕ) (x : A) (y : B) → i < length xs → i < length ys → x ≡ get_or xs i x → y ≡ get_or ys i y → Whole (drop i xs) (drop i ys) ↔ (R x y × Whole (drop (i + 1) xs) (drop (i + 1) ys))
    here xs ys i x y h k e f =
        let left : drop i xs ≡ x ∷ drop (i + 1) xs = rw add-one (drop-cons xs i x h) ∙ ap (λ z. z ∷ drop (i + 1) xs) (sym e) in
        let right : drop i ys ≡ y ∷ drop (i + 1) ys = rw add-one (drop-cons ys i y k) ∙ ap (λ z. z ∷ drop (i + 1) ys) (sym f) in
        let step = by.more x y (drop (i + 1) xs) (drop (i + 1) ys) in (
          λ w. step.0 (subst (λ zs. Whole zs (y ∷ drop (i + 1) ys)) left (subst (Whole (drop i xs)) right w)),
          λ w. subst (Whole (drop i xs)) (sym right) (subst (λ zs. Whole zs (y ∷ drop (i + 1) ys)) (sym left) (step.1 w)),
        )

    pub from_turn : (xs : List A) (ys : List B) (i : ℕ) (x : A) (y : B) (b : Bool) → i < length xs → i < length ys → x ≡ get_or xs i x → y ≡ get_or ys i y → IsTrue b ↔ R x y → b ≡ true → From i xs ys → From (i + 1) xs ys
    from_turn xs ys i x y b h k e f test t from =
        let at = here xs ys i x y h k e f in
        record { rest = (λ w. from.rest.0 (at.1 (test.0 (true_is b t), w)), λ w. (at.0 (from.rest.1 w)).1) }

    pub from_fails : (xs : List A) (ys : List B) (i : ℕ) (x : A) (y : B) (b : Bool) → i < length xs → i < length ys → x ≡ get_or xs i x → y ≡ get_or ys i y → IsTrue b ↔ R x y → b ≡ false → From i xs ys → IsTrue false ↔ Whole xs ys
    from_fails xs ys i x y b h k e f test t from =
        fails (Whole xs ys) (λ w. not_true b t (test.1 ((here xs ys i x y h k e f).0 (from.rest.1 w)).0))

    pub from_end : (xs : List A) (ys : List B) (i : ℕ) → length xs ≡ length ys → length xs ≤ i → From i xs ys → IsTrue true ↔ Whole xs ys
    from_end xs ys i same over from =
        let left : drop i xs ≡ [] = drop_of_length-le xs over in
        let right : drop i ys ≡ [] = drop_of_length-le ys (omega arith) in
        holds (Whole xs ys) (from.rest.0 (subst (λ zs. Whole zs (drop i ys)) (sym left) (subst (Whole []) (sym right) by.none)))

    pub other_length : (xs : List A) (ys : List B) → (length xs ≡ length ys → ⊥) → IsTrue false ↔ Whole xs ys
    other_length xs ys differ = fails (Whole xs ys) (λ w. differ (by.same_length xs ys w))

-- ---- the lists of terms, triggers and formulas

module _ (bs : List (ℕ × ℕ)) (x : ℕ) (t : TermData) where
  terms_same_length : (ts us : List TermData) → AreTermInstances bs x t (terms_of ts) (terms_of us) → length ts ≡ length us
  terms_same_length [] [] h = refl
  terms_same_length [] (u ∷ us) h = absurd h
  terms_same_length (a ∷ ts) [] h = absurd h
  terms_same_length (a ∷ ts) (u ∷ us) h = ap suc (terms_same_length ts us h.1)

  pub terms_by_items : ByItems (λ ts us. AreTermInstances bs x t (terms_of ts) (terms_of us)) (IsTermInstance bs x t)
  terms_by_items = record { none = tt; more = λ a b ts us. (λ w. w, λ w. w); same_length = terms_same_length }

  triggers_same_length : (ts us : List TermsData) → AreTriggerInstances bs x t (triggers_of ts) (triggers_of us) → length ts ≡ length us
  triggers_same_length [] [] h = refl
  triggers_same_length [] (u ∷ us) h = absurd h
  triggers_same_length (a ∷ ts) [] h = absurd h
  triggers_same_length (a ∷ ts) (u ∷ us) h = ap suc (triggers_same_length ts us h.1)

  pub triggers_by_items : ByItems (λ ts us. AreTriggerInstances bs x t (triggers_of ts) (triggers_of us)) (AreTermInstances bs x t)
  triggers_by_items = record { none = tt; more = λ a b ts us. (λ w. w, λ w. w); same_length = triggers_same_length }

  formulas_same_length : (ps qs : List FormulaData) → AreInstances bs x t (formulas_of ps) (formulas_of qs) → length ps ≡ length qs
  formulas_same_length [] [] h = refl
  formulas_same_length [] (q ∷ qs) h = absurd h
  formulas_same_length (p ∷ ps) [] h = absurd h
  formulas_same_length (p ∷ ps) (q ∷ qs) h = ap suc (formulas_same_length ps qs h.1)

  pub formulas_by_items : ByItems (λ ps qs. AreInstances bs x t (formulas_of ps) (formulas_of qs)) (IsInstanceUnder bs x t)
  formulas_by_items = record { none = tt; more = λ p q ps qs. (λ w. w, λ w. w); same_length = formulas_same_length }
