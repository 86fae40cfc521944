-- The alpha rule is due exactly for the computed parts.
use Rattle.std.proofs.Common.{◌≡◌, ℕ, ◌+◌, ◌≤◌, List, [], ◌∷◌, length, map, Some, None, sym, ap, ◌∙◌, subst, arith, below_more}
use Rattle.std.specs.Prelude.{slice_get, All}
use Rattle.fol.specs.FormulaData.{FormulaData, NotFormula}
use Rattle.term_pool.specs.Pools.{Extends}
use Rattle.term_pool.specs.declared.node.Node.{Node}
use Rattle.certificates.specs.Parts.{parts_of, parts_of_negated}
use Rattle.certificates.specs.BranchesBranch.{Branch}
use Rattle.certificates.specs.Due.{HasNew, IsShallow, PartsDue}
use Rattle.tableau.specs.PoolBranches.{BranchData, branch_in, IsOver}
use Rattle.tableau.specs.declared.entry.PoolEntry.{PoolEntry}
use Rattle.tableau.specs.Numbers.{formula_at, IsNumberOf, AreNumbersOf, AreNumbersIn}
use Rattle.tableau.specs.Steps.{NoPartsAt, NoPartsBefore, NoParts, ArePartsDue}
use Rattle.fol.specs.declared.operators.Connective.TheVariants.{Implies}
use Rattle.tableau.specs.Compounds.{IsConnection}
use Rattle.tableau.proofs.NumberLemmas.{number_stays, formula_stays, numbers_pair}
use Rattle.tableau.proofs.EntryLemmas.{says_within, still_says, still_said, still_entry}

-- the parts of a negated implication
pub negated_implication : (ns ms : List Node) → Extends ns ms → (p : FormulaData) (left right denied : ℕ) (numbers : List ℕ) → IsConnection ns p Implies left right → IsNumberOf ms (NotFormula (formula_at ns right)) denied → numbers ≡ left ∷ denied ∷ [] → AreNumbersIn ms (parts_of_negated p) numbers
negated_implication ns ms grown p left right denied numbers h g e = record {
  formulas = formula_at ns left ∷ NotFormula (formula_at ns right) ∷ [];
  is = ap parts_of_negated h.is;
  are = subst (AreNumbersOf ms (formula_at ns left ∷ NotFormula (formula_at ns right) ∷ [])) (sym e) (numbers_pair ms (formula_at ns left) (NotFormula (formula_at ns right)) left denied (record { number = number_stays ns ms grown left h.left_number; is = formula_stays ns ms grown left h.left_number }) g);
}

module _ (ns ms : List Node) (grown : Extends ns ms) (d : BranchData) (over : IsOver ns d) (i : ℕ) (e : PoolEntry) (found : slice_get d.entries i ≡ Some e) where
  pub no_conjunction : parts_of (formula_at ns e.formula) ≡ None → NoPartsAt (branch_in ms d) i
  no_conjunction none = record {
    none = λ ps due. (let both : Some ps ≡ None = sym due.are_parts ∙ ap parts_of (still_said ns ms grown d over i e due.entry found due.says) ∙ none in absurd (cc));
  }

  -- the due parts can only be these
  same_parts : (numbers : List ℕ) (h : AreNumbersIn ms (parts_of (formula_at ns e.formula)) numbers) (ps : List FormulaData) → PartsDue (branch_in ms d) i ps → ps ≡ map (formula_at ms) numbers
  same_parts numbers h ps due =
      let both : Some ps ≡ Some h.formulas = sym due.are_parts ∙ ap parts_of (still_said ns ms grown d over i e due.entry found due.says) ∙ h.is in
      let same : ps ≡ h.formulas = cc in
      same ∙ sym h.are.are

  pub not_new : (numbers : List ℕ) → AreNumbersIn ms (parts_of (formula_at ns e.formula)) numbers → (HasNew (branch_in ms d) (map (formula_at ms) numbers) → ⊥) → NoPartsAt (branch_in ms d) i
  not_new numbers h fails = record { none = λ ps due. fails (subst (HasNew (branch_in ms d)) (same_parts numbers h ps due) due.news) }

  pub not_shallow : (numbers : List ℕ) → AreNumbersIn ms (parts_of (formula_at ns e.formula)) numbers → (All IsShallow (map (formula_at ms) numbers) → ⊥) → NoPartsAt (branch_in ms d) i
  not_shallow numbers h fails = record { none = λ ps due. fails (subst (All IsShallow) (same_parts numbers h ps due) due.shallow) }

  pub parts_due : (numbers : List ℕ) → AreNumbersIn ms (parts_of (formula_at ns e.formula)) numbers → HasNew (branch_in ms d) (map (formula_at ms) numbers) → All IsShallow (map (formula_at ms) numbers) → ArePartsDue ms (branch_in ms d) i numbers
  parts_due numbers h news shallow = record {
    parts = h.formulas;
    numbered = h.are;
    due = record {
      entry = formula_at ns e.formula;
      says = still_entry ns ms grown d over i e found;
      are_parts = h.is;
      news = subst (HasNew (branch_in ms d)) h.are.are news;
      shallow = subst (All IsShallow) h.are.are shallow;
    };
  }

-- ---- entry after entry

pub before_grown : (ns ms : List Node) → Extends ns ms → (d : BranchData) → IsOver ns d → (i : ℕ) → NoPartsBefore (branch_in ns d) i → NoPartsBefore (branch_in ms d) i
before_grown ns ms grown d over i h = subst (λ b. NoPartsBefore b i) (sym (still_says ns ms grown d over)) h

pub before_more : (b : Branch) (i : ℕ) → NoPartsBefore b i → NoPartsAt b i → NoPartsBefore b (i + 1)
before_more b i h at = record { each = below_more (NoPartsAt b) i h.each at }

pub before_all : (ns : List Node) (d : BranchData) (i : ℕ) → length d.entries ≤ i → NoPartsBefore (branch_in ns d) i → NoParts (branch_in ns d)
before_all ns d i w h = record {
  each = λ j. record { none = λ ps due. (h.each j (omega (arith, w, says_within ns d j due.entry due.says))).none ps due };
}
