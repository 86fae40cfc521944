-- The beta rule is due exactly for the computed cases.
use Rattle.std.proofs.Common.{◌≡◌, ℕ, ◌+◌, ◌≤◌, List, [], ◌∷◌, length, map, Some, None, refl, sym, ap, ◌∙◌, subst, arith, below_more}
use Rattle.std.specs.Prelude.{slice_get, All}
use Rattle.fol.specs.FormulaData.{FormulaData, NotFormula}
use Rattle.term_pool.specs.Pools.{Extends}
use Rattle.term_pool.specs.declared.node.Node.{Node}
use Rattle.certificates.specs.Parts.{cases_of}
use Rattle.certificates.specs.BranchesBranch.{Branch, IsNew}
use Rattle.certificates.specs.Due.{IsShallow, SplitDue}
use Rattle.tableau.specs.PoolBranches.{BranchData, branch_in, IsOver}
use Rattle.tableau.specs.declared.entry.PoolEntry.{PoolEntry}
use Rattle.tableau.specs.Numbers.{formula_at, IsNumberOf, AreNumbersOf, AreNumbersIn}
use Rattle.tableau.specs.Steps.{NoSplitAt, NoSplitBefore, NoSplit, AreCasesDue}
use Rattle.fol.specs.declared.operators.Connective.TheVariants.{Implies}
use Rattle.tableau.specs.Compounds.{IsConnection}
use Rattle.tableau.proofs.NumberLemmas.{number_stays, formula_stays, numbers_pair}
use Rattle.tableau.proofs.EntryLemmas.{says_within, still_says, still_said, still_entry}

-- the cases of an implication
pub implication : (ns ms : List Node) → Extends ns ms → (p : FormulaData) (left right denied : ℕ) (numbers : List ℕ) → IsConnection ns p Implies left right → IsNumberOf ms (NotFormula (formula_at ns left)) denied → numbers ≡ denied ∷ right ∷ [] → AreNumbersIn ms (cases_of p) numbers
implication ns ms grown p left right denied numbers h g e = record {
  formulas = NotFormula (formula_at ns left) ∷ formula_at ns right ∷ [];
  is = ap cases_of h.is;
  are = subst (AreNumbersOf ms (NotFormula (formula_at ns left) ∷ formula_at ns right ∷ [])) (sym e) (numbers_pair ms (NotFormula (formula_at ns left)) (formula_at ns right) denied right g (record { number = number_stays ns ms grown right h.right_number; is = formula_stays ns ms grown right h.right_number }));
}

module _ (ns ms : List Node) (grown : Extends ns ms) (d : BranchData) (over : IsOver ns d) (i : ℕ) (e : PoolEntry) (found : slice_get d.entries i ≡ Some e) where
  pub no_disjunction : cases_of (formula_at ns e.formula) ≡ None → NoSplitAt (branch_in ms d) i
  no_disjunction none = record {
    none = λ ps due. (let both : Some ps ≡ None = sym due.are_cases ∙ ap cases_of (still_said ns ms grown d over i e due.entry found due.says) ∙ none in absurd (cc));
  }

  -- the due cases can only be these
  same_cases : (numbers : List ℕ) (h : AreNumbersIn ms (cases_of (formula_at ns e.formula)) numbers) (ps : List FormulaData) → SplitDue (branch_in ms d) i ps → ps ≡ map (formula_at ms) numbers
  same_cases numbers h ps due =
      let both : Some ps ≡ Some h.formulas = sym due.are_cases ∙ ap cases_of (still_said ns ms grown d over i e due.entry found due.says) ∙ h.is in
      let same : ps ≡ h.formulas = cc in
      same ∙ sym h.are.are

  pub not_some : (numbers : List ℕ) → AreNumbersIn ms (cases_of (formula_at ns e.formula)) numbers → numbers ≡ [] → NoSplitAt (branch_in ms d) i
  not_some numbers h e' = record { none = λ ps due. due.some (same_cases numbers h ps due ∙ ap (map (formula_at ms)) e') }

  pub not_new : (numbers : List ℕ) → AreNumbersIn ms (cases_of (formula_at ns e.formula)) numbers → (All (IsNew (branch_in ms d)) (map (formula_at ms) numbers) → ⊥) → NoSplitAt (branch_in ms d) i
  not_new numbers h fails = record { none = λ ps due. fails (subst (All (IsNew (branch_in ms d))) (same_cases numbers h ps due) due.news) }

  pub not_shallow : (numbers : List ℕ) → AreNumbersIn ms (cases_of (formula_at ns e.formula)) numbers → (All IsShallow (map (formula_at ms) numbers) → ⊥) → NoSplitAt (branch_in ms d) i
  not_shallow numbers h fails = record { none = λ ps due. fails (subst (All IsShallow) (same_cases numbers h ps due) due.shallow) }

  some_numbers : (numbers : List ℕ) → (numbers ≡ [] → ⊥) → map (formula_at ms) numbers ≡ [] → ⊥
  some_numbers [] h g = h refl
  some_numbers (n ∷ numbers) h g = absurd (cc)

  pub cases_due : (numbers : List ℕ) → AreNumbersIn ms (cases_of (formula_at ns e.formula)) numbers → (numbers ≡ [] → ⊥) → All (IsNew (branch_in ms d)) (map (formula_at ms) numbers) → All IsShallow (map (formula_at ms) numbers) → AreCasesDue ms (branch_in ms d) i numbers
  cases_due numbers h some news shallow = record {
    cases = h.formulas;
    numbered = h.are;
    due = record {
      entry = formula_at ns e.formula;
      says = still_entry ns ms grown d over i e found;
      are_cases = h.is;
      some = λ g. some_numbers numbers some (h.are.are ∙ g);
      news = subst (All (IsNew (branch_in ms d))) h.are.are news;
      shallow = subst (All IsShallow) h.are.are shallow;
    };
  }

-- ---- entry after entry

pub before_grown : (ns ms : List Node) → Extends ns ms → (d : BranchData) → IsOver ns d → (i : ℕ) → NoSplitBefore (branch_in ns d) i → NoSplitBefore (branch_in ms d) i
before_grown ns ms grown d over i h = subst (λ b. NoSplitBefore b i) (sym (still_says ns ms grown d over)) h

pub before_more : (b : Branch) (i : ℕ) → NoSplitBefore b i → NoSplitAt b i → NoSplitBefore b (i + 1)
before_more b i h at = record { each = below_more (NoSplitAt b) i h.each at }

pub before_all : (ns : List Node) (d : BranchData) (i : ℕ) → length d.entries ≤ i → NoSplitBefore (branch_in ns d) i → NoSplit (branch_in ns d)
before_all ns d i w h = record {
  each = λ j. record { none = λ ps due. (h.each j (omega (arith, w, says_within ns d j due.entry due.says))).none ps due };
}
