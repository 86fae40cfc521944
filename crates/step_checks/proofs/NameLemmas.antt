-- Whether a given Skolem name is due.
use Rattle.std.proofs.Common.{◌≡◌, ◌↔◌, ℕ, ◌<◌, ◌^◌, Bool, IsTrue, List, Some, sym, ◌∙◌, subst, arith}
use Rattle.std.specs.Prelude.{slice_get}
use Rattle.fol.specs.declared.operators.Quantifier.TheVariants.{Exists}
use Rattle.fol.specs.FormulaData.{TermData, VarTerm, FormulaData}
use Rattle.certificates.specs.Quantified.{IsBodyWith}
use Rattle.term_pool.specs.declared.node.Node.{Node}
use Rattle.certificates.specs.Names.{above_all}
use Rattle.certificates.specs.BranchesBranch.{formulas}
use Rattle.certificates.specs.Due.{IsShallow, NameDue, IsNamed}
use Rattle.tableau.specs.PoolBranches.{BranchData, branch_in}
use Rattle.tableau.specs.declared.entry.PoolEntry.{PoolEntry}
use Rattle.tableau.specs.Numbers.{formula_at}
use Rattle.tableau.proofs.EntryLemmas.{entry_says, said_is}
use Rattle.tableau.proofs.AboveLemmas.{all_new}

module _ (ns : List Node) (d : BranchData) (i : ℕ) (e : PoolEntry) (found : slice_get d.entries i ≡ Some e) (v : ℕ) (p : FormulaData) where
  pub name_given : (least unnamed body shallow known : Bool) → v < 2 ^ 32 → IsTrue least ↔ (v ≡ above_all (formulas (branch_in ns d))) → IsTrue unnamed ↔ (IsNamed (branch_in ns d) i → ⊥) → IsTrue body ↔ IsBodyWith Exists (VarTerm v) (formula_at ns e.formula) p → IsTrue shallow ↔ IsShallow p → IsTrue known ↔ (IsTrue least × IsTrue unnamed × IsTrue body × IsTrue shallow) → IsTrue known ↔ NameDue (branch_in ns d) i v p
  name_given least unnamed body shallow known wide l u b s t = (
    λ yes. (
        let all = t.0 yes in
        record {
          entry = formula_at ns e.formula;
          says = entry_says ns d i e found;
          is_body = b.0 all.2;
          is_new = all_new v (formulas (branch_in ns d)) (let is = l.0 all.0 in omega (arith, is));
          is_above = l.0 all.0;
          is_variable = wide;
          unnamed = u.0 all.1;
          shallow = s.0 all.3;
        }),
    λ due. t.1 (l.1 due.is_above, u.1 due.unnamed, b.1 (subst (λ q. IsBodyWith Exists (VarTerm v) q p) (said_is ns d i e due.entry found due.says) due.is_body), s.1 due.shallow),
  )

-- ---- what was read

pub least_read : {known : Bool} {v w least n : ℕ} → w ≡ v → IsTrue known ↔ (w ≡ least) → least ≡ n → IsTrue known ↔ (v ≡ n)
least_read f h e = (λ yes. sym f ∙ h.0 yes ∙ e, λ is. h.1 (f ∙ is ∙ sym e))

pub named_read : {known named : Bool} {P : Type 0} → IsTrue known ↔ (IsTrue named → ⊥) → IsTrue named ↔ P → IsTrue known ↔ (P → ⊥)
named_read h g = (λ yes p. h.0 yes (g.1 p), λ none. h.1 (λ so. none (g.0 so)))

pub name_read : (p : FormulaData) {known : Bool} {name t : TermData} {whole of : FormulaData} → name ≡ t → whole ≡ of → IsTrue known ↔ IsBodyWith Exists name whole p → IsTrue known ↔ IsBodyWith Exists t of p
name_read p {known} {name} {t} {whole} {of} e f h = subst (λ x. IsTrue known ↔ IsBodyWith Exists x of p) e (subst (λ q. IsTrue known ↔ IsBodyWith Exists name q p) f h)
