-- The two sides of a bound.
use Rattle.std.proofs.Common.{◌≡◌, ◌↔◌, ℕ, ℤ, pos, ◌+ℤ◌, Bool, false, IsTrue, List, [], ◌∷◌, length, map, Some, None, refl, sym, ap, ◌∙◌, subst}
use Rattle.std.specs.Prelude.{slice_get}
use Rattle.base.specs.TypeData.{NumType}
use Rattle.fol.specs.FormulaData.{TermData, NumTerm, FormulaData, LeFormula, IsFormula}
use Rattle.term_pool.specs.Pools.{HasParts, IsMade, Extends, IsOneNumber}
use Rattle.term_pool.specs.declared.node.Leaf.TheVariants.{TypeNum}
use Rattle.term_pool.specs.declared.node.Two.TheVariants.{Is}
use Rattle.term_pool.specs.declared.node.Node.{Node}
use Rattle.term_pool.specs.declared.node.Node.TheVariants.{Leaf as LeafNode, Two as TwoNode}
use Rattle.term_pool.proofs.GrowthLemmas.{item_stays, leaf_made, two_parts, two_made, two_is}
use Rattle.certificates.specs.BranchesBranch.{Branch, Says}
use Rattle.certificates.specs.Due.{IsShallow}
use Rattle.tableau.specs.PoolBranches.{BranchData, branch_in, IsTermNumber, IsOver}
use Rattle.tableau.specs.declared.entry.PoolEntry.{PoolEntry}
use Rattle.tableau.proofs.AnswerLemmas.{stored}
use Rattle.tableau.specs.Numbers.{formula_at, IsNumberOf}
use Rattle.tableau.proofs.EntryLemmas.{entry_says, said_is}
use Rattle.tableau.proofs.NumberLemmas.{number_stays, formula_stays, number_of_item}
use Rattle.axiom_strategy.proofs.OrderLemmas.{triggered_item}
use Rattle.tableau.specs.Terms.{term_at}
use Rattle.tree_checks.specs.Grown.{BoundsDue}
use Rattle.tree_checks.specs.Lists.{IsPair}
use Rattle.tree_checks.specs.Sides.{AreBoundsOf}
use Rattle.tree_checks.proofs.GrowthLemmas.{two_are, first_is, second_is}
use Rattle.tree_checks.proofs.SideLemmas.{formula_once}
use Rattle.tree_checks.proofs.GrownTruthLemmas.{never, weaker}

-- ---- the formula stating that the term is a whole number

module _ (ns ms : List Node) (grown : Extends ns ms) (term of : ℕ) (t : IsTermNumber ns term) (made : IsMade ms of (LeafNode TypeNum)) where
  pub number_parts : HasParts ms (length ms) (TwoNode Is of term)
  number_parts = two_parts Is (leaf_made TypeNum made) (item_stays grown (triggered_item ns term t)) refl refl

  pub number_made : (os : List Node) → Extends ms os → (k : ℕ) → IsMade os k (TwoNode Is of term) → IsNumberOf os (IsFormula NumType (term_at ns term)) k
  number_made os further k m =
      number_of_item os (IsFormula NumType (term_at ns term)) k (two_is Is (leaf_made TypeNum made) (item_stays grown (triggered_item ns term t)) (two_made Is further number_parts m))

-- ---- both sides

module _ (ns : List Node) (t : TermData) (k : ℤ) (below above : ℕ) where
  module _ (xs : List ℕ) (is : IsPair xs (below, above)) (b : Branch) (i : ℕ) where
    abbrev AreDue : Type 0
    AreDue = (map (formula_at ns) xs ≡ LeFormula t (NumTerm k) ∷ LeFormula (NumTerm (k +ℤ pos 1)) t ∷ []) × BoundsDue b i t k

    pub no_bounds : (AreBoundsOf ns t k below above → ⊥) → AreDue → ⊥
    no_bounds none h =
        let low = first_is ns xs (below, above) is (LeFormula t (NumTerm k)) (LeFormula (NumTerm (k +ℤ pos 1)) t) h.0 in
        let high = second_is ns xs (below, above) is (LeFormula t (NumTerm k)) (LeFormula (NumTerm (k +ℤ pos 1)) t) h.0 in
        none (record { is_below = low; is_above = high; shallow = subst IsShallow (sym low) h.1.shallow; shallow_next = subst IsShallow (sym high) h.1.shallow_next })

    pub said_tells : AreBoundsOf ns t k below above → (known : Bool) → IsTrue known ↔ Says b i (IsFormula NumType t) → IsTrue known ↔ AreDue
    said_tells bounds known h = weaker known
        (λ says. (two_are ns xs (below, above) is (LeFormula t (NumTerm k)) (LeFormula (NumTerm (k +ℤ pos 1)) t) bounds.is_below bounds.is_above, record { says = says; shallow = subst IsShallow bounds.is_below bounds.shallow; shallow_next = subst IsShallow bounds.is_above bounds.shallow_next }))
        (λ due. due.1.says) h

-- ---- the formula of an entry, by its number in an extended pool

module _ (ns ms : List Node) (grown : Extends ns ms) (d : BranchData) (over : IsOver ns d) (i : ℕ) where
  pub no_entry_says : None ≡ slice_get d.entries i → (p : FormulaData) → IsTrue false ↔ Says (branch_in ns d) i p
  no_entry_says none p = never (λ h. (
      let it = stored ns d.entries i h.entry h.found in
      let both : Some it.entry ≡ None = sym it.found ∙ sym none in
      absurd (cc)))

  module _ (e : PoolEntry) (found : slice_get d.entries i ≡ Some e) where
    pub entry_tells : IsOneNumber ms → (p : FormulaData) (n : ℕ) → IsNumberOf ms p n → (known : Bool) → IsTrue known ↔ (e.formula ≡ n) → IsTrue known ↔ Says (branch_in ns d) i p
    entry_tells one p n number known h =
        let here : formula_at ms e.formula ≡ formula_at ns e.formula = formula_stays ns ms grown e.formula (over.formulas i e found) in (
          λ t. (
              let is : formula_at ns e.formula ≡ p = sym here ∙ ap (formula_at ms) (h.0 t) ∙ number.is in
              subst (Says (branch_in ns d) i) is (entry_says ns d i e found)),
          λ says. (
              let is : p ≡ formula_at ns e.formula = said_is ns d i e p found says in
              h.1 (formula_once ms one e.formula n (number_stays ns ms grown e.formula (over.formulas i e found)) number.number (here ∙ sym is ∙ sym number.is))),
        )
