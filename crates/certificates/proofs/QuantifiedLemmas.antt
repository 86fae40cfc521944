-- The meaning of the tests of new variables and of cuts.
use Rattle.std.proofs.Common.{◌≡◌, ◌↔◌, ℕ, ◌<◌, List, [], ◌∷◌, length, get_or, slice_get, Option, Some, None, Bool, true, false, sym, ap, ◌∙◌, subst, arith}
use Rattle.std.specs.Prelude.{IsTrue}
use Rattle.std.proofs.lemmas.Option.{slice_get-get_or}
use Rattle.fol.specs.FormulaData.{FormulaData, NotFormula}
use Rattle.substitution.specs.Free.{free_in}
use Rattle.certificates.specs.Quantified.{AreCut}

-- ---- new variables

-- a test of the entry at an index
pub new_at : (v : ℕ) (ps : List FormulaData) (i : ℕ) (p d : FormulaData) (b : Bool) → i < length ps → Some p ≡ slice_get ps i → IsTrue b ↔ (free_in v p ≡ false) → IsTrue b ↔ (free_in v (get_or ps i d) ≡ false)
new_at v ps i p d b h e test =
    let same : Some p ≡ Some (get_or ps i d) = e ∙ slice_get-get_or ps i d h in
    let it : p ≡ get_or ps i d = cc in
    subst (λ (q : FormulaData). IsTrue b ↔ (free_in v q ≡ false)) it test

-- some entry does
pub none_at : (P : Type 0) (ps : List FormulaData) (i : ℕ) (d : FormulaData) → i < length ps → None ≡ slice_get ps i → P
none_at P ps i d h e =
    let some : None ≡ Some (get_or ps i d) = e ∙ slice_get-get_or ps i d h in
    absurd (cc)

-- ---- cuts

pub two_of : (cs : List FormulaData) (a b : FormulaData) → length cs ≡ 2 → a ≡ get_or cs 0 a → b ≡ get_or cs 1 b → cs ≡ a ∷ b ∷ []
two_of [] a b l e f = absurd (omega (arith, l))
two_of (x ∷ []) a b l e f = absurd (omega (arith, l))
two_of (x ∷ y ∷ []) a b l e f = λ i. sym e i ∷ sym f i ∷ []
two_of (x ∷ y ∷ z ∷ cs) a b l e f = absurd (omega (arith, l))

pub cut_test : (ps : List FormulaData) (p q : FormulaData) (b : Bool) → ps ≡ p ∷ q ∷ [] → IsTrue b ↔ (q ≡ NotFormula p) → IsTrue b ↔ AreCut ps
cut_test ps p q b e test = (
  λ h. (p, e ∙ ap (λ x. p ∷ x ∷ []) (test.0 h)),
  λ cut. test.1 (same (cut.0) (sym e ∙ cut.1)),
)
  where
    same : (r : FormulaData) → p ∷ q ∷ [] ≡ r ∷ NotFormula r ∷ [] → q ≡ NotFormula p
    same r s =
        let x : p ≡ r = cc in
        let y : q ≡ NotFormula r = cc in
        y ∙ ap NotFormula (sym x)
