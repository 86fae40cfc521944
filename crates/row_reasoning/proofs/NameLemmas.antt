-- Representatives of the terms of an entry.
use Rattle.std.proofs.Common.{◌≡◌, ℕ, zero, suc, ◌+◌, ◌<◌, ◌≤◌, List, [], ◌∷◌, ◌++◌, length, map, take, Some, None, refl, sym, ap, subst, arith}
use Rattle.std.specs.Prelude.{slice_get}
use Rattle.std.proofs.lemmas.List.{take_all}
use Rattle.fol.specs.FormulaData.{TermData}
use Rattle.term_pool.specs.Pools.{item_at}
use Rattle.term_pool.specs.declared.node.Node.{Node}
use Rattle.term_pool.proofs.ShapeLemmas.{a_term, a_formula}
use Rattle.certificates.specs.BranchesParts.{IsInFormula, Itself}
use Rattle.certificates.specs.BranchesBranch.{formulas, IsTerm}
use Rattle.tableau.specs.Marks.{IsUnder}
use Rattle.tableau.specs.PoolBranches.{BranchData, entry_in, branch_in, IsTermNumber, IsOver}
use Rattle.tableau.specs.declared.entry.PoolEntry.{PoolEntry}
use Rattle.tableau.proofs.InsideLemmas.{IsInItem}
use Rattle.tableau.proofs.AnswerLemmas.{pure_entry, under_inside}
use Rattle.row_reasoning.specs.Shapes.{term_at, IsNamedUnder}
use Rattle.row_reasoning.specs.Entries.{formula_at}
use Rattle.row_reasoning.specs.Rows.{AreNames, AreRowsSoFar}
use Rattle.row_reasoning.specs.declared.rows.BranchRows.{BranchRows}
use Rattle.row_reasoning.proofs.CoefficientLemmas.{take_found}

module _ (ns : List Node) (d : BranchData) (over : IsOver ns d) (i : ℕ) (e : PoolEntry) (found : slice_get d.entries i ≡ Some e) where
  inside : (n : ℕ) → IsTermNumber ns n → IsUnder ns e.formula n → IsInFormula (term_at ns n) (formula_at ns e.formula)
  inside n term under =
      let itself : IsInItem (term_at ns n) (item_at ns n) = subst (IsInItem (term_at ns n)) (a_term (item_at ns n) term.sort) Itself in
      subst (IsInItem (term_at ns n)) (sym (a_formula (item_at ns e.formula) (over.formulas i e found).sort)) (under_inside ns e.formula n under (term_at ns n) itself)

  is_term : (n : ℕ) → IsTermNumber ns n → IsUnder ns e.formula n → IsTerm (branch_in ns d) (term_at ns n)
  is_term n term under = record {
    generation = e.generation;
    holds = record { position = i; entry = entry_in ns e; found = pure_entry ns d.entries i e found; inside = inside n term under; same = refl };
  }

  pub named_entry : (class : TermData → ℕ) (names : List ℕ) → AreNames ns (branch_in ns d) class names → IsNamedUnder ns e.formula class names
  named_entry class names h = record { named = λ n under term. h.named n term (is_term n term under) }

  formulas_at : (es : List PoolEntry) (k : ℕ) → slice_get es k ≡ Some e → slice_get (formulas (map (entry_in ns) es)) k ≡ Some (formula_at ns e.formula)
  formulas_at [] k f = absurd (cc)
  formulas_at (x ∷ es) zero f = (let same : x ≡ e = cc in ap (λ y. Some (formula_at ns y.formula)) same)
  formulas_at (x ∷ es) (suc k) f = formulas_at es k f

  pub one_formula_more : take (i + 1) (formulas (branch_in ns d)) ≡ take i (formulas (branch_in ns d)) ++ formula_at ns e.formula ∷ []
  one_formula_more = take_found (formulas (branch_in ns d)) i (formula_at ns e.formula) (formulas_at d.entries i found)

-- ---- as many formulas as entries

pub formulas_length : (ns : List Node) (es : List PoolEntry) → length (formulas (map (entry_in ns) es)) ≡ length es
formulas_length ns [] = refl
formulas_length ns (e ∷ es) = ap suc (formulas_length ns es)

take_length : {X : Type 0} (xs : List X) (k : ℕ) → k ≤ length xs → length (take k xs) ≡ k
take_length xs zero h = refl
take_length [] (suc k) h = absurd (omega (arith, h))
take_length (x ∷ xs) (suc k) h = ap suc (take_length xs k (omega (arith, h)))

pub prefix_length : (ns : List Node) (es : List PoolEntry) (k : ℕ) → k < length es → length (take k (formulas (map (entry_in ns) es))) ≡ k
prefix_length ns es k h = take_length (formulas (map (entry_in ns) es)) k (let l = formulas_length ns es in omega (arith, l, h))

pub not_past : {X : Type 0} (xs : List X) (k : ℕ) → k < length xs → None ≡ slice_get xs k → ⊥
not_past [] k h e = omega (arith, h)
not_past (x ∷ xs) zero h e = (cc)
not_past (x ∷ xs) (suc k) h e = not_past xs k (omega (arith, h)) e

-- all entries are processed
pub all_rows : (ns : List Node) (d : BranchData) (class : TermData → ℕ) (given : List ℕ) (made : BranchRows) (k : ℕ) → length d.entries ≤ k → AreRowsSoFar class given (take k (formulas (branch_in ns d))) made → AreRowsSoFar class given (formulas (branch_in ns d)) made
all_rows ns d class given made k past h =
    let long = formulas_length ns d.entries in
    subst (λ ps. AreRowsSoFar class given ps made) (take_all k (formulas (branch_in ns d)) (omega (arith, past, long))) h
