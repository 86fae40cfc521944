-- Instances of quantified formulas for a term, and whether some entry is one.
use Rattle.std.proofs.Common.{◌≡◌, ◌↔◌, ℕ, Bool, true, false, IsTrue, List, Some, refl, subst}
use Rattle.std.specs.Prelude.{slice_get}
use Rattle.fol.specs.declared.operators.Quantifier.TheVariants.{ForAll}
use Rattle.fol.specs.FormulaData.{TermData, FormulaData}
use Rattle.certificates.specs.Quantified.{IsBodyWith}
use Rattle.term_pool.specs.declared.node.Node.{Node}
use Rattle.certificates.specs.BranchesBranch.{Branch, Stands}
use Rattle.certificates.specs.Due.{HasInstance}
use Rattle.tableau.specs.PoolBranches.{BranchData, branch_in}
use Rattle.tableau.specs.declared.entry.PoolEntry.{PoolEntry}
use Rattle.tableau.proofs.EntryLemmas.{entry_says, said_is}
use Rattle.ematching.specs.Numbers.{triggers_at, formula_at}
use Rattle.ematching.specs.Quantified.{for_all, IsQuantified}
use Rattle.ematching.specs.declared.quantified.Universal.{Universal}
use Rattle.ematching.specs.QuantifierFree.{quantifier_free}
use Rattle.ematching.specs.Bodies.{IsSaidAt}
use Rattle.ematching.proofs.SaidLemmas.{one_said}
use Rattle.step_checks.proofs.GivenLemmas.{never}

pub said_given : (ns : List Node) (d : BranchData) (i : ℕ) (e : PoolEntry) → slice_get d.entries i ≡ Some e → (of : FormulaData) (t : TermData) (known : Bool) → IsTrue known ↔ IsBodyWith ForAll t of (formula_at ns e.formula) → IsTrue known ↔ IsSaidAt (branch_in ns d) of t i
said_given ns d i e found of t known h = (
  λ yes. record { formula = formula_at ns e.formula; says = entry_says ns d i e found; is_body = h.0 yes },
  λ said. h.1 (subst (IsBodyWith ForAll t of) (said_is ns d i e said.formula found said.says) said.is_body),
)

-- ---- instances new to the branch

module _ (b : Branch) (of : FormulaData) (t : TermData) (p : FormulaData) where
  pub no_body : (known : Bool) → known ≡ false → IsTrue known ↔ IsBodyWith ForAll t of p → IsTrue false ↔ (IsBodyWith ForAll t of p × (HasInstance b of t → ⊥))
  no_body known e h = never (λ fresh. (let yes = h.1 fresh.0 in absurd (cc)))

  pub stands_so : IsBodyWith ForAll t of p → Stands b p → IsTrue false ↔ (IsBodyWith ForAll t of p × (HasInstance b of t → ⊥))
  stands_so body stands = never (λ fresh. fresh.1 (record { body = p; stands = stands; is_body = body }))

  pub unsaid_given : IsBodyWith ForAll t of p → (said known : Bool) → IsTrue said ↔ HasInstance b of t → IsTrue known ↔ (IsTrue said → ⊥) → IsTrue known ↔ (IsBodyWith ForAll t of p × (HasInstance b of t → ⊥))
  unsaid_given body said known h g = (λ yes. (body, λ has. g.0 yes (h.1 has)), λ fresh. g.1 (λ so. fresh.1 (h.0 so)))

-- without quantifiers there is only one such formula
pub one_says : (ns : List Node) (b : Branch) (of : FormulaData) (t : TermData) (p : FormulaData) (u : Universal) → IsQuantified ns of u → quantifier_free (formula_at ns u.body) ≡ true → IsBodyWith ForAll t of p → (Stands b p → ⊥) → IsTrue true ↔ (IsBodyWith ForAll t of p × (HasInstance b of t → ⊥))
one_says ns b of t p u is free body none = (λ yes. (body, unsaid), λ fresh. refl)
  where
    whole : FormulaData
    whole = for_all u.is_denied u.variable (triggers_at ns u.triggers) (formula_at ns u.body)

    unsaid : HasInstance b of t → ⊥
    unsaid has =
        let given : IsBodyWith ForAll t whole p = subst (λ q. IsBodyWith ForAll t q p) is.is body in
        let also : IsBodyWith ForAll t whole has.body = subst (λ q. IsBodyWith ForAll t q has.body) is.is has.is_body in
        none (subst (Stands b) (one_said u.is_denied u.variable (triggers_at ns u.triggers) (formula_at ns u.body) t has.body p also given free) has.stands)

-- ---- what was read

pub body_read : (p : FormulaData) (known : Bool) (value t : TermData) (whole of : FormulaData) → value ≡ t → whole ≡ of → IsTrue known ↔ IsBodyWith ForAll value whole p → IsTrue known ↔ IsBodyWith ForAll t of p
body_read p known value t whole of e f h = subst (λ x. IsTrue known ↔ IsBodyWith ForAll x of p) e (subst (λ q. IsTrue known ↔ IsBodyWith ForAll value q p) f h)

pub said_read : (b : Branch) (known : Bool) (value t : TermData) (whole of : FormulaData) → value ≡ t → whole ≡ of → IsTrue known ↔ HasInstance b whole value → IsTrue known ↔ HasInstance b of t
said_read b known value t whole of e f h = subst (λ x. IsTrue known ↔ HasInstance b of x) e (subst (λ q. IsTrue known ↔ HasInstance b q value) f h)
