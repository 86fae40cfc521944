-- Entries of a branch over a pool that is extended.
use Rattle.std.proofs.Common.{◌≡◌, ℕ, ◌<◌, List, length, Some, refl, sym, ap, ◌∙◌, subst, arith}
use Rattle.std.specs.Prelude.{slice_get}
use Rattle.std.proofs.lemmas.List.{length-map}
use Rattle.std.proofs.lemmas.Option.{slice_get_within, same_Some}
use Rattle.fol.specs.FormulaData.{FormulaData}
use Rattle.term_pool.specs.Pools.{Extends}
use Rattle.term_pool.specs.declared.node.Node.{Node}
use Rattle.certificates.specs.BranchesBranch.{Entry, Says}
use Rattle.tableau.specs.PoolBranches.{BranchData, entry_in, branch_in, IsOver}
use Rattle.tableau.specs.declared.entry.PoolEntry.{PoolEntry}
use Rattle.tableau.proofs.AnswerLemmas.{pure_entry}
use Rattle.tableau.proofs.PushLemmas.{over_still, says_still}
use Rattle.tableau.specs.Numbers.{formula_at}
use Rattle.tableau.proofs.NumberLemmas.{formula_stays}

-- an entry is its formula, and no other
pub entry_says : (ns : List Node) (d : BranchData) (i : ℕ) (e : PoolEntry) → slice_get d.entries i ≡ Some e → Says (branch_in ns d) i (formula_at ns e.formula)
entry_says ns d i e found = record { entry = entry_in ns e; found = pure_entry ns d.entries i e found; is = refl }

pub said_is : (ns : List Node) (d : BranchData) (i : ℕ) (e : PoolEntry) (p : FormulaData) → slice_get d.entries i ≡ Some e → Says (branch_in ns d) i p → p ≡ formula_at ns e.formula
said_is ns d i e p found h =
    let same : h.entry ≡ entry_in ns e = same_Some h.entry (entry_in ns e) (sym h.found ∙ pure_entry ns d.entries i e found) in
    sym h.is ∙ ap (λ (x : Entry). x.formula) same

-- only numbers of entries have a formula
pub says_within : (ns : List Node) (d : BranchData) (i : ℕ) (p : FormulaData) → Says (branch_in ns d) i p → i < length d.entries
says_within ns d i p h = omega (arith, slice_get_within (branch_in ns d) i h.entry h.found, length-map d.entries (entry_in ns))

pub still_over : (ns ms : List Node) → Extends ns ms → (d : BranchData) → IsOver ns d → IsOver ms d
still_over ns ms grown d over = over_still ns ms grown d over

pub still_says : (ns ms : List Node) → Extends ns ms → (d : BranchData) → IsOver ns d → branch_in ms d ≡ branch_in ns d
still_says ns ms grown d over = says_still ns ms grown d.entries over.formulas

-- an entry keeps its formula while the pool is extended
pub still_said : (ns ms : List Node) → Extends ns ms → (d : BranchData) → IsOver ns d → (i : ℕ) (e : PoolEntry) (p : FormulaData) → slice_get d.entries i ≡ Some e → Says (branch_in ms d) i p → p ≡ formula_at ns e.formula
still_said ns ms grown d over i e p found h = said_is ms d i e p found h ∙ formula_stays ns ms grown e.formula (over.formulas i e found)

pub still_entry : (ns ms : List Node) → Extends ns ms → (d : BranchData) → IsOver ns d → (i : ℕ) (e : PoolEntry) → slice_get d.entries i ≡ Some e → Says (branch_in ms d) i (formula_at ns e.formula)
still_entry ns ms grown d over i e found =
    subst (Says (branch_in ms d) i) (formula_stays ns ms grown e.formula (over.formulas i e found)) (entry_says ms d i e found)
