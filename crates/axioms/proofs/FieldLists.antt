-- A walk along the fields of a struct, with a term and a formula for each.
use Rattle.std.proofs.Common.{◌≡◌, ◌↔◌, ℕ, ◌+◌, ◌<◌, List, length, get_or, slice_get, Some, Bool, true, false, inl, inr, sym, ◌∙◌, subst, arith}
use Rattle.std.specs.Prelude.{IsTrue}
use Rattle.std.proofs.lemmas.Bool.{cases_lt}
use Rattle.std.proofs.lemmas.List.{get_or_default}
use Rattle.base.proofs.TruthValues.{fails, not_true, true_is}
use Rattle.base.specs.TypeData.{TypeData}
use Rattle.fol.specs.FormulaData.{TermData, TermsData, PackTerm, FormulaData, terms_of, terms_of_injective}
use Rattle.fol.specs.declared.shapes.Shape.{Shape}
use Rattle.axioms.specs.Fields.{HasFields}
use Rattle.axioms.specs.Structs.{IsFieldTyped, AreFieldsTyped}

module _ (args fields : List TypeData) (ts : List TermData) (ps : List FormulaData) where
  moved : {f g : TypeData} {t u : TermData} {p q : FormulaData} → f ≡ g → t ≡ u → p ≡ q → IsFieldTyped args f t p → IsFieldTyped args g u q
  moved {f} {g} {t} {u} {p} {q} a b c h =
      subst (λ (x : TypeData). IsFieldTyped args x u q) a (subst (λ (x : TermData). IsFieldTyped args f x q) b (subst (λ (x : FormulaData). IsFieldTyped args f t x) c h))

  -- the first fields have their types
  abbrev pub Below : ℕ → Type 0
  Below i =
      (k : ℕ) (f : TypeData) (t : TermData) (p : FormulaData) → k < i → IsFieldTyped args (get_or fields k f) (get_or ts k t) (get_or ps k p)

  pub untyped : (i : ℕ) (f : TypeData) (t : TermData) (p : FormulaData) → i < length fields → f ≡ get_or fields i f → t ≡ get_or ts i t → p ≡ get_or ps i p → (b : Bool) → IsTrue b ↔ IsFieldTyped args f t p → b ≡ false → IsTrue false ↔ AreFieldsTyped args fields ts ps
  unfolding AreFieldsTyped
  untyped i f t p h a e c b test failed =
      fails _ (λ all. not_true b failed (test.1 (moved (sym a) (sym e) (sym c) (all.2 i f t p h))))

  pub typed_more : (i : ℕ) (f : TypeData) (t : TermData) (p : FormulaData) → i < length fields → i < length ts → i < length ps → f ≡ get_or fields i f → t ≡ get_or ts i t → p ≡ get_or ps i p → (b : Bool) → IsTrue b ↔ IsFieldTyped args f t p → b ≡ true → Below i → Below (i + 1)
  typed_more i f t p h k l a e c b test held before n g u q at = elim (cases_lt n i) [
    | inl below ↦ before n g u q below
    | inr above ↦ (let same : i ≡ n = omega arith in let here : IsFieldTyped args (get_or fields i g) (get_or ts i u) (get_or ps i q) = moved (a ∙ get_or_default fields i f g h) (e ∙ get_or_default ts i t u k) (c ∙ get_or_default ps i p q l) (test.0 (true_is b held)) in subst (λ (m : ℕ). IsFieldTyped args (get_or fields m g) (get_or ts m u) (get_or ps m q)) same here)
  ]

terms_inside : {a b : TypeData} {ts us : TermsData} → PackTerm a ts ≡ PackTerm b us → ts ≡ us
terms_inside e = cc

module _ (shapes : List Shape) (a : TypeData) (k : ℕ) (t : TermData) where
  -- a struct with such a field, in the form in which it is stored
  pub pack_stored : (packed : TermData) (xs : List TermData) (b : Bool) → PackTerm a (terms_of xs) ≡ packed → IsTrue b ↔ (HasFields shapes a (length xs) × (slice_get xs k ≡ Some t)) → IsTrue b ↔ ((ts : List TermData) × HasFields shapes a (length ts) × (slice_get ts k ≡ Some t) × (packed ≡ PackTerm a (terms_of ts)))
  pack_stored packed xs b stored test = (
    λ h. let both = test.0 h in (xs, both.0, both.1, sym stored),
    λ i. let same : i.0 ≡ xs = terms_of_injective _ _ (terms_inside (sym (stored ∙ i.3))) in test.1 (subst (λ (ts : List TermData). HasFields shapes a (length ts)) same i.1, subst (λ (ts : List TermData). slice_get ts k ≡ Some t) same i.2),
  )
