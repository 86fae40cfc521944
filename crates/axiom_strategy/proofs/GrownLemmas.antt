-- A branch and its terms while the pool is extended.
use Rattle.std.proofs.Common.{◌≡◌, ℕ, List, length, sym, ap, ◌∙◌, subst, arith, length-append}
use Rattle.fol.specs.FormulaData.{TermData, FormulaData}
use Rattle.term_pool.specs.Items.{sort_of, term_in}
use Rattle.term_pool.specs.Pools.{Extends}
use Rattle.term_pool.specs.declared.node.Node.{Node}
use Rattle.term_pool.proofs.ItemLemmas.{item_kept}
use Rattle.certificates.specs.BranchesBranch.{Branch, Stands, IsTerm}
use Rattle.tableau.specs.PoolBranches.{BranchData, branch_in, IsTermNumber, IsOver}
use Rattle.congruence_closure.specs.Known.{BranchClassesData}
use Rattle.congruence_closure.proofs.OverLemmas.{still_over as classes_still}
use Rattle.tableau.specs.Numbers.{formula_at, IsNumberOf}
use Rattle.tableau.proofs.EntryLemmas.{still_over, still_says}
use Rattle.tableau.specs.Terms.{term_at, IsBranchTerm, AreClassesOf}

module _ (ns ms : List Node) (grown : Extends ns ms) where
  pub number_grown : (n : ℕ) → IsTermNumber ns n → IsTermNumber ms n
  number_grown n h = record {
    within = (let l = ap length grown.is in let w = h.within in omega (arith, l, length-append ns grown.more, w));
    sort = ap sort_of (item_kept ns ms grown n h.within) ∙ h.sort;
  }

  pub term_grown : (n : ℕ) → IsTermNumber ns n → term_at ms n ≡ term_at ns n
  term_grown n h = ap term_in (item_kept ns ms grown n h.within)

  module _ (d : BranchData) (over : IsOver ns d) where
    pub over_grown : IsOver ms d
    over_grown = still_over ns ms grown d over

    pub branch_grown : branch_in ms d ≡ branch_in ns d
    branch_grown = still_says ns ms grown d over

    pub branch_term_grown : (n : ℕ) → IsBranchTerm ns (branch_in ns d) n → IsBranchTerm ms (branch_in ms d) n
    branch_term_grown n h = record {
      number = number_grown n h.number;
      stands = subst (IsTerm (branch_in ms d)) (sym (term_grown n h.number)) (subst (λ b. IsTerm b (term_at ns n)) (sym branch_grown) h.stands);
    }

    pub classes_grown : (c : BranchClassesData) → AreClassesOf ns d c → AreClassesOf ms d c
    classes_grown c h = record { over = classes_still ns ms c grown h.over; entries = h.entries }

    -- a fact about two terms of the branch in the one pool holds in the other
    pub so_before : (P : Branch → TermData → TermData → Type 0) (i j : ℕ) → IsTermNumber ns i → IsTermNumber ns j → P (branch_in ms d) (term_at ms i) (term_at ms j) → P (branch_in ns d) (term_at ns i) (term_at ns j)
    so_before P i j s t h =
        subst (λ b. P b (term_at ns i) (term_at ns j)) branch_grown
        (subst (λ x. P (branch_in ms d) x (term_at ns j)) (term_grown i s)
        (subst (P (branch_in ms d) (term_at ms i)) (term_grown j t) h))

    pub so_after : (P : Branch → TermData → TermData → Type 0) (i j : ℕ) → IsTermNumber ns i → IsTermNumber ns j → P (branch_in ns d) (term_at ns i) (term_at ns j) → P (branch_in ms d) (term_at ms i) (term_at ms j)
    so_after P i j s t h =
        subst (P (branch_in ms d) (term_at ms i)) (sym (term_grown j t))
        (subst (λ x. P (branch_in ms d) x (term_at ns j)) (sym (term_grown i s))
        (subst (λ b. P b (term_at ns i) (term_at ns j)) (sym branch_grown) h))

    -- whether a formula that has a number in the larger pool is on the branch
    pub stands_before : (p : FormulaData) (n : ℕ) → IsNumberOf ms p n → Stands (branch_in ms d) (formula_at ms n) → Stands (branch_in ns d) p
    stands_before p n h s = subst (λ b. Stands b p) branch_grown (subst (Stands (branch_in ms d)) h.is s)

    pub stands_after : (p : FormulaData) (n : ℕ) → IsNumberOf ms p n → Stands (branch_in ns d) p → Stands (branch_in ms d) (formula_at ms n)
    stands_after p n h s = subst (Stands (branch_in ms d)) (sym h.is) (subst (λ b. Stands b p) (sym branch_grown) s)
