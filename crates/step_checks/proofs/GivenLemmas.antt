-- Whether given conjuncts and cases are those that are due.
use Rattle.std.proofs.Common.{◌≡◌, ◌↔◌, ℕ, Bool, false, IsTrue, List, [], ◌∷◌, map, Some, refl, sym, ap, ◌∙◌, subst}
use Rattle.std.specs.Prelude.{All}
use Rattle.std.proofs.lemmas.List.Elements.{All-head, All-tail}
use Rattle.std.proofs.lemmas.Option.{same_Some}
use Rattle.fol.specs.FormulaData.{FormulaData}
use Rattle.certificates.specs.Parts.{parts_of, cases_of}
use Rattle.term_pool.specs.Items.{FormulaItem}
use Rattle.term_pool.specs.Pools.{item_at, Extends, IsOneNumber}
use Rattle.term_pool.specs.declared.node.Node.{Node}
use Rattle.term_pool.proofs.ShapeLemmas.{a_formula}
use Rattle.certificates.specs.BranchesBranch.{Branch, Entry, Says}
use Rattle.certificates.specs.Due.{PartsDue, SplitDue}
use Rattle.tableau.specs.PoolBranches.{BranchData, branch_in, IsFormulaNumber, IsOver}
use Rattle.tableau.specs.Numbers.{formula_at, AreFormulas, AreNumbersOf}
use Rattle.tableau.specs.Steps.{ArePartsDue, AreCasesDue}
use Rattle.tableau.proofs.NumberLemmas.{formulas_stay, numbers_stay}
use Rattle.tableau.proofs.EntryLemmas.{still_says}

-- false is right for what never holds
pub never : {P : Type 0} → (P → ⊥) → IsTrue false ↔ P
never f = (λ t. absurd (cc), λ p. absurd (f p))

pub weaker : {A B : Type 0} (r : Bool) → (A → B) → (B → A) → IsTrue r ↔ A → IsTrue r ↔ B
weaker r f g h = (λ t. f (h.0 t), λ b. h.1 (g b))

-- ---- one number

formula_once : (ns : List Node) → IsOneNumber ns → (i j : ℕ) → IsFormulaNumber ns i → IsFormulaNumber ns j → formula_at ns i ≡ formula_at ns j → i ≡ j
formula_once ns one i j s t e =
    one.one i j s.within t.within (sym (a_formula (item_at ns i) s.sort) ∙ ap FormulaItem e ∙ a_formula (item_at ns j) t.sort)

formulas_once : (ns : List Node) → IsOneNumber ns → (xs ys : List ℕ) → All (IsFormulaNumber ns) xs → All (IsFormulaNumber ns) ys → map (formula_at ns) xs ≡ map (formula_at ns) ys → xs ≡ ys
formulas_once ns one [] [] f g e = refl
formulas_once ns one [] (y ∷ ys) f g e = absurd (cc)
formulas_once ns one (x ∷ xs) [] f g e = absurd (cc)
formulas_once ns one (x ∷ xs) (y ∷ ys) f g e =
    let both : formula_at ns x ∷ map (formula_at ns) xs ≡ formula_at ns y ∷ map (formula_at ns) ys = e in
    let first : formula_at ns x ≡ formula_at ns y = cc in
    let rest : map (formula_at ns) xs ≡ map (formula_at ns) ys = cc in
    let same : x ≡ y = formula_once ns one x y (All-head (IsFormulaNumber ns) x xs f) (All-head (IsFormulaNumber ns) y ys g) first in
    let others : xs ≡ ys = formulas_once ns one xs ys (All-tail (IsFormulaNumber ns) x xs f) (All-tail (IsFormulaNumber ns) y ys g) rest in
    λ i. same i ∷ others i

-- ---- conjuncts and cases

one_entry : (b : Branch) (i : ℕ) (p q : FormulaData) → Says b i p → Says b i q → p ≡ q
one_entry b i p q h g =
    let same : h.entry ≡ g.entry = same_Some h.entry g.entry (sym h.found ∙ g.found) in
    sym h.is ∙ ap (λ (e : Entry). e.formula) same ∙ g.is

same_parts : (b : Branch) (i : ℕ) (ps qs : List FormulaData) → PartsDue b i ps → PartsDue b i qs → ps ≡ qs
same_parts b i ps qs h g =
    let both : Some ps ≡ Some qs = sym h.are_parts ∙ ap parts_of (one_entry b i h.entry g.entry h.says g.says) ∙ g.are_parts in
    same_Some ps qs both

same_cases : (b : Branch) (i : ℕ) (ps qs : List FormulaData) → SplitDue b i ps → SplitDue b i qs → ps ≡ qs
same_cases b i ps qs h g =
    let both : Some ps ≡ Some qs = sym h.are_cases ∙ ap cases_of (one_entry b i h.entry g.entry h.says g.says) ∙ g.are_cases in
    same_Some ps qs both

module _ (ns ms : List Node) (grown : Extends ns ms) (d : BranchData) (over : IsOver ns d) (i : ℕ) (xs : List ℕ) (given : AreFormulas ns xs) where
  kept : map (formula_at ms) xs ≡ map (formula_at ns) xs
  kept = (numbers_stay ns ms grown (map (formula_at ns) xs) xs (record { formulas = given; are = refl })).are

  -- what was found is due, and equals what is given exactly if the numbers are equal
  module _ (P : Branch → List FormulaData → Type 0) (once : (ps qs : List FormulaData) → P (branch_in ms d) ps → P (branch_in ms d) qs → ps ≡ qs) where
    there : P (branch_in ns d) (map (formula_at ns) xs) → P (branch_in ms d) (map (formula_at ms) xs)
    there h = subst (P (branch_in ms d)) (sym kept) (subst (λ b. P b (map (formula_at ns) xs)) (sym (still_says ns ms grown d over)) h)

    back : P (branch_in ms d) (map (formula_at ms) xs) → P (branch_in ns d) (map (formula_at ns) xs)
    back h = subst (λ b. P b (map (formula_at ns) xs)) (still_says ns ms grown d over) (subst (P (branch_in ms d)) kept h)

    given_due : IsOneNumber ms → (numbers : List ℕ) (ps : List FormulaData) → AreNumbersOf ms ps numbers → P (branch_in ms d) ps → (known : Bool) → IsTrue known ↔ (numbers ≡ xs) → IsTrue known ↔ P (branch_in ns d) (map (formula_at ns) xs)
    given_due one numbers ps numbered due known same = (
      λ t. back (subst (P (branch_in ms d)) (sym numbered.are ∙ ap (map (formula_at ms)) (same.0 t)) due),
      λ h. same.1 (formulas_once ms one numbers xs numbered.formulas.each (formulas_stay ns ms grown xs given).each (numbered.are ∙ once ps (map (formula_at ms) xs) due (there h))),
    )

    pub none_due : ((ps : List FormulaData) → P (branch_in ms d) ps → ⊥) → IsTrue false ↔ P (branch_in ns d) (map (formula_at ns) xs)
    none_due none = never (λ h. none (map (formula_at ms) xs) (there h))

  pub parts_given : IsOneNumber ms → (numbers : List ℕ) → ArePartsDue ms (branch_in ms d) i numbers → (known : Bool) → IsTrue known ↔ (numbers ≡ xs) → IsTrue known ↔ PartsDue (branch_in ns d) i (map (formula_at ns) xs)
  parts_given one numbers h known same = given_due (λ b ps. PartsDue b i ps) (same_parts (branch_in ms d) i) one numbers h.parts h.numbered h.due known same

  pub cases_given : IsOneNumber ms → (numbers : List ℕ) → AreCasesDue ms (branch_in ms d) i numbers → (known : Bool) → IsTrue known ↔ (numbers ≡ xs) → IsTrue known ↔ SplitDue (branch_in ns d) i (map (formula_at ns) xs)
  cases_given one numbers h known same = given_due (λ b ps. SplitDue b i ps) (same_cases (branch_in ms d) i) one numbers h.cases h.numbered h.due known same

  pub no_parts : ((ps : List FormulaData) → PartsDue (branch_in ms d) i ps → ⊥) → IsTrue false ↔ PartsDue (branch_in ns d) i (map (formula_at ns) xs)
  no_parts none = none_due (λ b ps. PartsDue b i ps) (same_parts (branch_in ms d) i) none

  pub no_cases : ((ps : List FormulaData) → SplitDue (branch_in ms d) i ps → ⊥) → IsTrue false ↔ SplitDue (branch_in ns d) i (map (formula_at ns) xs)
  no_cases none = none_due (λ b ps. SplitDue b i ps) (same_cases (branch_in ms d) i) none
