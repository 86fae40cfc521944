-- Clashes at one entry that do not need congruence, and their absence.
use Rattle.std.proofs.Common.{◌≡◌, ℕ, ◌+◌, ◌≤◌, List, length, Some, None, sym, subst, arith, below_more}
use Rattle.std.specs.Prelude.{slice_get}
use Rattle.fol.specs.FormulaData.{FormulaData, NotFormula}
use Rattle.certificates.specs.Closes.{IsFalseForm}
use Rattle.term_pool.specs.declared.node.Node.{Node}
use Rattle.certificates.specs.BranchesBranch.{Branch, Says, Stands, IsNew}
use Rattle.tableau.specs.PoolBranches.{BranchData, branch_in, IsFirstEntry}
use Rattle.tableau.specs.declared.entry.PoolEntry.{PoolEntry}
use Rattle.tableau.specs.Numbers.{formula_at}
use Rattle.tableau.proofs.EntryLemmas.{says_within}
use Rattle.term_pool.specs.Forms.{IsNoDenial, IsDenialOf}
use Rattle.closing_rules.specs.Literal.{AreContrary, IsNotLiteralAt, IsNotLiteralBefore, IsNotLiteral}
use Rattle.closing_rules.proofs.ClashLemmas.{past_says, not_false, no_denial_said, denies, denied_is}

module _ (ns : List Node) (d : BranchData) (i : ℕ) where
  abbrev b : Branch
  b = branch_in ns d

  pub past_literal : None ≡ slice_get d.entries i → IsNotLiteralAt b i
  past_literal none = record {
    no_contrary = λ p s h. past_says ns d i (NotFormula p) none h;
    no_false = λ p h f. past_says ns d i p none h;
  }

  module _ (e : PoolEntry) (found : slice_get d.entries i ≡ Some e) where
    pub no_denial_literal : (IsFalseForm (formula_at ns e.formula) → ⊥) → IsNoDenial (formula_at ns e.formula) → IsNotLiteralAt b i
    no_denial_literal fails none = record {
      no_contrary = λ p s h. no_denial_said ns d i e found none p h;
      no_false = not_false ns d i e found fails;
    }

    module _ (inner : ℕ) (denial : IsDenialOf ns e.formula inner) where
      pub contrary : (said : ℕ) → IsFirstEntry b (formula_at ns inner) said → AreContrary b said i
      contrary said h = record { formula = formula_at ns inner; says = h.says; denies = denies ns d i e found inner denial }

      pub no_contrary : (IsFalseForm (formula_at ns e.formula) → ⊥) → IsNew b (formula_at ns inner) → IsNotLiteralAt b i
      no_contrary fails none = record {
        no_contrary = λ p s h. none.new (subst (Stands b) (sym (denied_is ns d i e found inner denial p h)) s);
        no_false = not_false ns d i e found fails;
      }

pub none_literal : (b : Branch) → IsNotLiteralBefore b 0
none_literal b = record { each = λ i w. absurd (omega (arith, w)) }

pub one_more : (b : Branch) (i : ℕ) → IsNotLiteralBefore b i → IsNotLiteralAt b i → IsNotLiteralBefore b (i + 1)
one_more b i h at = record { each = below_more (IsNotLiteralAt b) i h.each at }

pub not_literal : (ns : List Node) (d : BranchData) (count : ℕ) → length d.entries ≤ count → IsNotLiteralBefore (branch_in ns d) count → IsNotLiteral (branch_in ns d)
not_literal ns d count w h = record {
  each = λ i. record {
    no_contrary = λ p s n. (at i (NotFormula p) n).no_contrary p s n;
    no_false = λ p n f. (at i p n).no_false p n f;
  };
}
  where
    at : (i : ℕ) (p : FormulaData) → Says (branch_in ns d) i p → IsNotLiteralAt (branch_in ns d) i
    at i p says = h.each i (let l = says_within ns d i p says in omega (arith, l, w))
