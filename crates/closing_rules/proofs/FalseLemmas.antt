-- Formulas that cannot be true by their form.
use Rattle.std.proofs.Common.{◌≡◌, ◌↔◌, Bool, true, false, refl, sym, ap, ◌∙◌, subst}
use Rattle.std.specs.Prelude.{IsTrue}
use Rattle.fol.specs.declared.operators.Comparison.TheVariants.{Eq, Le}
use Rattle.fol.specs.declared.operators.Constant.TheVariants.{False}
use Rattle.fol.specs.declared.operators.Junction.TheVariants.{AllOf, AnyOf}
use Rattle.fol.specs.FormulaData.{ConstantTerm, FormulaData, CompareFormula, EqFormula, IsFormula, HoldsFormula, NotFormula, JoinFormula, ConnectFormula, QuantifyFormula, NoFormulas, MoreFormulas}
use Rattle.certificates.specs.Closes.{IsFalseForm, IsFalseNegated}
use Rattle.term_pool.specs.Forms.{IsNoDenial}
use Rattle.closing_rules.specs.Forms.{IsReflexive}

pub holds : {A : Type 0} → A → IsTrue true ↔ A
holds a = (λ t. a, λ b. refl)

-- ---- negations

-- the forms whose negation cannot be true
data IsDeniedForm (p : FormulaData) : Type 0 where
  NoPart : p ≡ JoinFormula AllOf NoFormulas → IsDeniedForm p
  Same : IsReflexive p → IsDeniedForm p

denied_form : (p : FormulaData) → IsFalseNegated p → IsDeniedForm p
denied_form (JoinFormula AllOf NoFormulas) h = NoPart refl
denied_form (JoinFormula AllOf (MoreFormulas q qs)) h = absurd h
denied_form (JoinFormula AnyOf NoFormulas) h = absurd h
denied_form (JoinFormula AnyOf (MoreFormulas q qs)) h = absurd h
denied_form (CompareFormula Eq t u) h = Same (record { term = t; is = ap (λ x. EqFormula t x) (sym h) })
denied_form (CompareFormula Le t u) h = absurd h
denied_form (IsFormula a t) h = absurd h
denied_form (HoldsFormula t) h = absurd h
denied_form (NotFormula q) h = absurd h
denied_form (ConnectFormula o q r) h = absurd h
denied_form (QuantifyFormula o n ts q) h = absurd h

pub denied_no_part : (p : FormulaData) → p ≡ JoinFormula AllOf NoFormulas → IsFalseNegated p
denied_no_part p e = subst IsFalseNegated (sym e) tt

denied_same : (p : FormulaData) → IsReflexive p → IsFalseNegated p
denied_same p r = subst IsFalseNegated (sym r.is) refl

pub denied_answer : (p : FormulaData) (r : Bool) → IsTrue false ↔ (p ≡ JoinFormula AllOf NoFormulas) → IsTrue r ↔ IsReflexive p → IsTrue r ↔ IsFalseNegated p
denied_answer p r fails k = (λ t. denied_same p (k.0 t), λ f. back (denied_form p f))
  where
    back : IsDeniedForm p → IsTrue r
    back (NoPart e) = absurd (let never : false ≡ true = fails.1 e in cc)
    back (Same s) = k.1 s

-- ---- forms that cannot be true

data IsFalseOf (p : FormulaData) : Type 0 where
  NoCase : p ≡ JoinFormula AnyOf NoFormulas → IsFalseOf p
  Held : p ≡ HoldsFormula (ConstantTerm False) → IsFalseOf p
  Denied : (q : FormulaData) → p ≡ NotFormula q → IsFalseNegated q → IsFalseOf p

false_of : (p : FormulaData) → IsFalseForm p → IsFalseOf p
false_of (JoinFormula AnyOf NoFormulas) h = NoCase refl
false_of (JoinFormula AnyOf (MoreFormulas q qs)) h = absurd h
false_of (JoinFormula AllOf NoFormulas) h = absurd h
false_of (JoinFormula AllOf (MoreFormulas q qs)) h = absurd h
false_of (HoldsFormula (ConstantTerm False)) h = Held refl
false_of (HoldsFormula (ConstantTerm _)) h = absurd h
false_of (HoldsFormula _) h = absurd h
false_of (NotFormula q) h = Denied q refl h
false_of (CompareFormula o t u) h = absurd h
false_of (IsFormula a t) h = absurd h
false_of (ConnectFormula o q r) h = absurd h
false_of (QuantifyFormula o n ts q) h = absurd h

pub no_case : (p : FormulaData) → p ≡ JoinFormula AnyOf NoFormulas → IsFalseForm p
no_case p e = subst IsFalseForm (sym e) tt

pub held : (p : FormulaData) → p ≡ HoldsFormula (ConstantTerm False) → IsFalseForm p
held p e = subst IsFalseForm (sym e) tt

-- neither of the first two forms
record IsNeither (p : FormulaData) : Type 0 where
  no_case : p ≡ JoinFormula AnyOf NoFormulas → ⊥
  not_held : p ≡ HoldsFormula (ConstantTerm False) → ⊥

neither : (p : FormulaData) → IsTrue false ↔ (p ≡ JoinFormula AnyOf NoFormulas) → IsTrue false ↔ (p ≡ HoldsFormula (ConstantTerm False)) → IsNeither p
neither p fails not = record {
  no_case = λ e. (let never : false ≡ true = fails.1 e in cc);
  not_held = λ e. (let never : false ≡ true = not.1 e in cc);
}

pub denial_answer : (p q : FormulaData) (r : Bool) → IsTrue false ↔ (p ≡ JoinFormula AnyOf NoFormulas) → IsTrue false ↔ (p ≡ HoldsFormula (ConstantTerm False)) → p ≡ NotFormula q → IsTrue r ↔ IsFalseNegated q → IsTrue r ↔ IsFalseForm p
denial_answer p q r fails not e k = (λ t. subst IsFalseForm (sym e) (k.0 t), λ f. back (false_of p f))
  where
    back : IsFalseOf p → IsTrue r
    back (NoCase c) = absurd ((neither p fails not).no_case c)
    back (Held c) = absurd ((neither p fails not).not_held c)
    back (Denied s c f) =
        let both : NotFormula s ≡ NotFormula q = sym c ∙ e in
        let same : s ≡ q = cc in
        k.1 (subst IsFalseNegated same f)

pub no_denial_answer : (p : FormulaData) → IsTrue false ↔ (p ≡ JoinFormula AnyOf NoFormulas) → IsTrue false ↔ (p ≡ HoldsFormula (ConstantTerm False)) → IsNoDenial p → IsTrue false ↔ IsFalseForm p
no_denial_answer p fails not none = (λ t. absurd (cc), λ f. absurd (back (false_of p f)))
  where
    back : IsFalseOf p → ⊥
    back (NoCase c) = (neither p fails not).no_case c
    back (Held c) = (neither p fails not).not_held c
    back (Denied s c f) = none.none s c
