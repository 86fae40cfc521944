-- Decisions on two numbers that are due.
use Rattle.std.proofs.Common.{◌≡◌, ◌↔◌, inl, inr, ℕ, Bool, true, false, not, IsTrue, List, [], ◌∷◌, refl, sym, ap, ◌∙◌, subst}
use Rattle.fol.specs.FormulaData.{TermData, FormulaData, EqFormula, NotFormula}
use Rattle.term_pool.specs.Items.{FormulaItem}
use Rattle.term_pool.specs.Pools.{item_at, Extends, IsOneNumber}
use Rattle.term_pool.specs.declared.node.Node.{Node}
use Rattle.term_pool.proofs.ShapeLemmas.{a_formula}
use Rattle.certificates.specs.BranchesBranch.{Branch, Stands, IsNew}
use Rattle.certificates.specs.Joined.{Joined}
use Rattle.certificates.specs.Decisions.{AreIndexes, AsksDecision, AreNumbers}
use Rattle.certificates.specs.Due.{IsShallow, IsUnordered, trichotomy_axiom, AreGenerations}
use Rattle.tableau.specs.PoolBranches.{BranchData, branch_in, IsFormulaNumber, IsTermNumber, IsOver}
use Rattle.tableau.specs.Numbers.{formula_at, IsNumberOf}
use Rattle.tableau.proofs.NumberLemmas.{number_stays, formula_stays}
use Rattle.tableau.specs.Terms.{term_at}
use Rattle.axiom_strategy.proofs.GrownLemmas.{so_before}
use Rattle.step_checks.proofs.DecisionsTruthLemmas.{never, weaker, not_so}
use Rattle.step_checks.specs.Sides.{HasNoSides, AreSides}
use Rattle.step_checks.specs.Orders.{IsPairDue, IsOrderOf, IsOrderDue}

-- ---- the instance by its number

formula_once : (ns : List Node) → IsOneNumber ns → (i j : ℕ) → IsFormulaNumber ns i → IsFormulaNumber ns j → formula_at ns i ≡ formula_at ns j → i ≡ j
formula_once ns one i j s t e =
    one.one i j s.within t.within (sym (a_formula (item_at ns i) s.sort) ∙ ap FormulaItem e ∙ a_formula (item_at ns j) t.sort)

pub same_made : (ns ms : List Node) → Extends ns ms → IsOneNumber ms → (p : FormulaData) (k n : ℕ) → IsNumberOf ms p k → IsFormulaNumber ns n → (known : Bool) → IsTrue known ↔ (k ≡ n) → IsTrue known ↔ (formula_at ns n ≡ p)
same_made ns ms grown one p k n made number known h =
    let kept : formula_at ms n ≡ formula_at ns n = formula_stays ns ms grown n number in (
      λ yes. sym kept ∙ ap (formula_at ms) (sym (h.0 yes)) ∙ made.is,
      λ is. h.1 (formula_once ms one k n made.number (number_stays ns ms grown n number) (made.is ∙ sym is ∙ sym kept)),
    )

-- ---- whether it is triggered

pub not_apart : (b : Branch) (t u : TermData) → Joined b t u → IsTrue false ↔ (Joined b t u → ⊥)
not_apart b t u h = never (λ none. none h)

pub is_apart : (b : Branch) (t u : TermData) → (Joined b t u → ⊥) → IsTrue true ↔ (Joined b t u → ⊥)
is_apart b t u h = (λ yes. h, λ none. refl)

pub joined_so : (b : Branch) (t u : TermData) → ((Joined b t u → ⊥) → ⊥) → IsTrue false ↔ IsUnordered b t u
joined_so b t u h = never (λ unordered. h unordered.not_joined)

pub unordered_so : (b : Branch) (t u : TermData) → (Joined b t u → ⊥) → (turned : Bool) → IsTrue turned ↔ Stands b (trichotomy_axiom u t) → IsTrue (not turned) ↔ IsUnordered b t u
unordered_so b t u apart turned h = weaker (not turned) (λ none. record { not_joined = apart; not_turned = none }) (λ unordered. unordered.not_turned) (not_so turned h)

pub triggered_as_indexes : (b : Branch) (t u : TermData) → AreIndexes b t u → IsTrue true ↔ AsksDecision b t u
triggered_as_indexes b t u h = (λ yes. inl h, λ triggered. refl)

pub triggered_as_differing : (b : Branch) (t u : TermData) → (AreIndexes b t u → ⊥) → (known : Bool) → IsTrue known ↔ Stands b (NotFormula (EqFormula t u)) → IsTrue known ↔ AsksDecision b t u
triggered_as_differing b t u none known h = (
  λ yes. inr (h.0 yes),
  λ triggered. elim triggered [ inl q ↦ absurd (none q) | inr q ↦ h.1 q ],
)

-- ---- two facts that hold together

pub first_fails : {P Q : Type 0} → (P → ⊥) → IsTrue false ↔ (P × Q)
first_fails none = never (λ both. none both.0)

pub second_tells : {P Q : Type 0} (known : Bool) → P → IsTrue known ↔ Q → IsTrue known ↔ (P × Q)
second_tells known p h = (λ yes. (p, h.0 yes), λ both. h.1 both.1)

pub pair_fails : (b : Branch) (t u : TermData) → (IsUnordered b t u → ⊥) → IsTrue false ↔ IsPairDue b t u
pair_fails b t u none = never (λ pair. none pair.unordered)

pub pair_tells : (b : Branch) (t u : TermData) (known : Bool) → IsUnordered b t u → IsTrue known ↔ (AsksDecision b t u × AreNumbers b t u) → IsTrue known ↔ IsPairDue b t u
pair_tells b t u known unordered h = (λ yes. (let both = h.0 yes in record { unordered = unordered; triggered = both.0; numbers = both.1 }), λ pair. h.1 (pair.triggered, pair.numbers))

pub order_fails : (b : Branch) (t u : TermData) (p : FormulaData) → (p ≡ trichotomy_axiom t u → ⊥) → IsTrue false ↔ IsOrderOf b t u p
order_fails b t u p none = never (λ order. none order.is)

pub order_tells : (b : Branch) (t u : TermData) (p : FormulaData) (known : Bool) → p ≡ trichotomy_axiom t u → IsTrue known ↔ IsPairDue b t u → IsTrue known ↔ IsOrderOf b t u p
order_tells b t u p known is h = (λ yes. record { is = is; pair = h.0 yes }, λ order. h.1 order.pair)

-- ---- results over an extended pool

module _ (ns ms : List Node) (grown : Extends ns ms) (d : BranchData) (over : IsOver ns d) (i j : ℕ) (s : IsTermNumber ns i) (t : IsTermNumber ns j) (known : Bool) where
  pub numbers_before : IsTrue known ↔ AreNumbers (branch_in ms d) (term_at ms i) (term_at ms j) → IsTrue known ↔ AreNumbers (branch_in ns d) (term_at ns i) (term_at ns j)
  numbers_before h = so_before ns ms grown d over (λ b x y. IsTrue known ↔ AreNumbers b x y) i j s t h

  pub triggered_before : IsTrue known ↔ (AsksDecision (branch_in ms d) (term_at ms i) (term_at ms j) × AreNumbers (branch_in ms d) (term_at ms i) (term_at ms j)) → IsTrue known ↔ (AsksDecision (branch_in ns d) (term_at ns i) (term_at ns j) × AreNumbers (branch_in ns d) (term_at ns i) (term_at ns j))
  triggered_before h = so_before ns ms grown d over (λ b x y. IsTrue known ↔ (AsksDecision b x y × AreNumbers b x y)) i j s t h

  pub pair_before : IsTrue known ↔ IsPairDue (branch_in ms d) (term_at ms i) (term_at ms j) → IsTrue known ↔ IsPairDue (branch_in ns d) (term_at ns i) (term_at ns j)
  pair_before h = so_before ns ms grown d over (λ b x y. IsTrue known ↔ IsPairDue b x y) i j s t h

-- ---- the whole instance

module _ (b : Branch) (p : FormulaData) (g : ℕ) where
  pub not_new : Stands b p → IsTrue false ↔ IsOrderDue b p g
  not_new h = never (λ due. due.is_new.new h)

  pub too_deep : (IsShallow p → ⊥) → IsTrue false ↔ IsOrderDue b p g
  too_deep deep = never (λ due. deep due.shallow)

  pub no_sides : HasNoSides p → IsTrue false ↔ IsOrderDue b p g
  no_sides none = never (λ due. none.none due.left due.right due.order.is)

module _ (ns : List Node) (b : Branch) (p : FormulaData) (g : ℕ) (pair : ℕ × ℕ) (sides : AreSides ns p pair) where
  of_sides : (P : TermData → TermData → Type 0) (x y : TermData) → p ≡ trichotomy_axiom x y → P x y → P (term_at ns pair.0) (term_at ns pair.1)
  of_sides P x y is h =
      let same = sides.only x y is in
      subst (λ z. P z (term_at ns pair.1)) (sym same.0) (subst (P x) (sym same.1) h)

  pub other_generation : (AreGenerations b (term_at ns pair.0 ∷ term_at ns pair.1 ∷ []) g → ⊥) → IsTrue false ↔ IsOrderDue b p g
  other_generation none = never (λ due. none (of_sides (λ x y. AreGenerations b (x ∷ y ∷ []) g) due.left due.right due.order.is due.generations))

  pub order_due : AreGenerations b (term_at ns pair.0 ∷ term_at ns pair.1 ∷ []) g → IsNew b p → IsShallow p → (known : Bool) → IsTrue known ↔ IsOrderOf b (term_at ns pair.0) (term_at ns pair.1) p → IsTrue known ↔ IsOrderDue b p g
  order_due generations new shallow known h = (
    λ yes. record { left = term_at ns pair.0; right = term_at ns pair.1; order = h.0 yes; generations = generations; is_new = new; shallow = shallow },
    λ due. h.1 (of_sides (λ x y. IsOrderOf b x y p) due.left due.right due.order.is due.order),
  )
