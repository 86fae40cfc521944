-- The formulas of entries, by number.
use Rattle.std.proofs.Common.{◌≡◌, ℕ, zero, suc, ◌+◌, ◌<◌, ◌≤◌, List, [], ◌∷◌, ◌++◌, length, map, take, Some, None, refl, sym, ap, ◌∙◌, subst, arith}
use Rattle.std.specs.Prelude.{slice_get}
use Rattle.std.proofs.lemmas.List.{map_more, take_all}
use Rattle.std.proofs.lemmas.Option.{slice_get_within, get_or_from_slice_get}
use Rattle.term_pool.specs.Items.{FormulaSort}
use Rattle.term_pool.specs.Pools.{HasPart}
use Rattle.term_pool.specs.declared.node.Node.{Node}
use Rattle.certificates.specs.BranchesBranch.{formula_of}
use Rattle.tableau.specs.PoolBranches.{BranchData, entry_in, branch_in, IsFormulaNumber, IsOver}
use Rattle.tableau.specs.declared.entry.PoolEntry.{PoolEntry}
use Rattle.tableau.specs.Numbers.{formula_at}
use Rattle.tableau.specs.Terms.{formula_number}
use Rattle.explanations.specs.Chains.{AreEntries}
use Rattle.closing_rules.proofs.ClassClosingsDepthLemmas.{mapped}

-- a number without an entry is past the last one
pub no_entry : {X : Type 0} (xs : List X) (i : ℕ) → None ≡ slice_get xs i → i < length xs → ⊥
no_entry [] i none w = omega (arith, w)
no_entry (x ∷ xs) zero none w = cc
no_entry (x ∷ xs) (suc i) none w = no_entry xs i none (omega (arith, w))

-- ---- the numbers of the formulas

pub numbers_more : (es : List PoolEntry) (i : ℕ) (e : PoolEntry) (before after : List ℕ) → slice_get es i ≡ Some e → before ≡ map formula_number (take i es) → after ≡ before ++ e.formula ∷ [] → after ≡ map formula_number (take (i + 1) es)
numbers_more es i e before after f front more =
    more ∙ (λ k. front k ++ e.formula ∷ []) ∙ sym (map_more formula_number es i e (slice_get_within es i e f) ∙ ap (λ (x : PoolEntry). map formula_number (take i es) ++ x.formula ∷ []) (get_or_from_slice_get es i e e f))

pub all_numbers : (es : List PoolEntry) (i : ℕ) (ks : List ℕ) → length es ≤ i → ks ≡ map formula_number (take i es) → ks ≡ map formula_number es
all_numbers es i ks w e = e ∙ ap (map formula_number) (take_all i es w)

formulas_are : (ns : List Node) (es : List PoolEntry) → map formula_of (map (entry_in ns) es) ≡ map (formula_at ns) (map formula_number es)
formulas_are ns [] = refl
formulas_are ns (e ∷ es) = ap (λ ps. formula_at ns e.formula ∷ ps) (formulas_are ns es)

part_of : (ns : List Node) (n : ℕ) → IsFormulaNumber ns n → HasPart ns (length ns) n FormulaSort
part_of ns n h = record { earlier = h.within; sort = h.sort }

-- these numbers are those of the branch
pub entries_are : (ns : List Node) (d : BranchData) → IsOver ns d → (ks : List ℕ) → ks ≡ map formula_number d.entries → AreEntries ns ks (branch_in ns d)
entries_are ns d over ks e = record {
  numbers = λ position k f. (let it = mapped d.entries position k (subst (λ xs. slice_get xs position ≡ Some k) e f) in subst (λ n. HasPart ns (length ns) n FormulaSort) it.is (part_of ns it.entry.formula (over.formulas position it.entry it.found)));
  are = ap (map (formula_at ns)) e ∙ sym (formulas_are ns d.entries);
}
