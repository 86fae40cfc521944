-- What stays right while formulas and terms are put into a pool, and entries on a branch over it.
use Rattle.std.proofs.Common.{◌≡◌, ℕ, List, [], ◌∷◌, ◌++◌, length, Result, Ok, IfOk, OnOk, sym, ap, subst, arith}
use Rattle.fol.specs.FormulaData.{FormulaData, TermData}
use Rattle.term_pool.specs.Items.{FormulaItem, TermItem, TermSort, sort_of}
use Rattle.term_pool.specs.Pools.{HasPart, IsItem, Extends}
use Rattle.term_pool.specs.declared.node.Node.{Node}
use Rattle.certificates.specs.BranchesBranch.{Branch}
use Rattle.tableau.specs.PoolBranches.{BranchData, IsFormulaNumber, IsTermNumber, IsOver}
use Rattle.tableau.specs.declared.entry.PoolEntry.{PoolEntry}
use Rattle.tableau.specs.Steps.{NoPartsBefore, NoSplitBefore}
use Rattle.tableau.specs.Names.{NoNameBefore}
use Rattle.tableau.specs.Variables.{VariablesData, AreAbove}
use Rattle.tableau.proofs.VariablesLemmas.{above_grown, above_longer}

-- ---- numbers of what was put in

module _ {E : Type 0} (ns : List Node) (r : Result ℕ E) (n : ℕ) (is : r ≡ Ok n) where
  pub formula_number : (p : FormulaData) → IfOk r (λ k. IsItem ns k (FormulaItem p)) → IsFormulaNumber ns n
  formula_number p h =
      let it : IsItem ns n (FormulaItem p) = subst (λ (o : Result ℕ E). IfOk o (λ k. IsItem ns k (FormulaItem p))) is h in
      record { within = it.within; sort = ap sort_of it.is }

  pub term_number : (t : TermData) → IfOk r (λ k. IsItem ns k (TermItem t)) → IsTermNumber ns n
  term_number t h =
      let it : IsItem ns n (TermItem t) = subst (λ (o : Result ℕ E). IfOk o (λ k. IsItem ns k (TermItem t))) is h in
      record { within = it.within; sort = ap sort_of it.is }

  -- a term that a node behind the others may have for a part
  pub term_part : (t : TermData) → IfOk r (λ k. IsItem ns k (TermItem t)) → HasPart ns (length ns) n TermSort
  term_part t h = (let it = term_number t h in record { earlier = it.within; sort = it.sort })

-- what is known of a step that went well
pub when_ok : {T E : Type 0} (P : Type 0) (r : Result T E) (x : T) → r ≡ Ok x → OnOk r P → P
when_ok {T} {E} P r x is h = subst (λ (o : Result T E). OnOk o P) is h

-- ---- entries

-- what is kept of variables is right once there is one more entry
pub above_entered : (ns ms : List Node) → Extends ns ms → (d : BranchData) → IsOver ns d → (es : List PoolEntry) (e : PoolEntry) → es ≡ d.entries ++ e ∷ [] → (v : VariablesData) → AreAbove ns d.entries v → AreAbove ms es v
above_entered ns ms grown d over es e is v h =
    subst (λ xs. AreAbove ms xs v) (sym is) (above_longer ms d.entries (e ∷ []) v (above_grown ns ms grown d over v h))

-- ---- before the first entry nothing is due

pub no_parts_yet : (b : Branch) → NoPartsBefore b 0
no_parts_yet b = record { each = λ i w. absurd (omega arith) }

pub no_split_yet : (b : Branch) → NoSplitBefore b 0
no_split_yet b = record { each = λ i w. absurd (omega arith) }

pub no_name_yet : (b : Branch) → NoNameBefore b 0
no_name_yet b = record { each = λ i w. absurd (omega arith) }
