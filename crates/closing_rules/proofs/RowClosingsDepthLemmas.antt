-- The entries of a branch by their formulas' numbers, and those that are too deep.
use Rattle.std.proofs.Common.{◌≡◌, ℕ, List, map, Option, Some, None, refl, sym, ◌∙◌, subst}
use Rattle.std.specs.Prelude.{slice_get}
use Rattle.std.specs.Option.{option_map}
use Rattle.std.proofs.lemmas.Option.{slice_get-map}
use Rattle.certificates.specs.Due.{IsShallow}
use Rattle.term_pool.specs.Items.{formula_in}
use Rattle.term_pool.specs.Pools.{Extends}
use Rattle.term_pool.specs.declared.node.Node.{Node}
use Rattle.term_pool.proofs.ItemLemmas.{item_kept}
use Rattle.tableau.specs.PoolBranches.{BranchData, entry_in, branch_in, IsOver}
use Rattle.tableau.specs.declared.entry.PoolEntry.{PoolEntry}
use Rattle.tableau.proofs.AnswerLemmas.{pure_entry}
use Rattle.tableau.specs.Terms.{formula_number}
use Rattle.explanations.specs.Chains.{formula_at}
use Rattle.row_reasoning.specs.DifferencesEntries.{IsDeep}
use Rattle.closing_rules.specs.Depths.{HasDeep}

module _ (ns : List Node) (d : BranchData) (over : IsOver ns d) where
  pub record IsNumberAt (position number : ℕ) : Type 0 where
    pub entry : PoolEntry
    pub found : slice_get d.entries position ≡ Some entry
    pub same : entry.formula ≡ number

  -- the entry of a number in the list of their formulas
  pub number_at_position : (position number : ℕ) → slice_get (map formula_number d.entries) position ≡ Some number → IsNumberAt position number
  number_at_position position number f = go (slice_get d.entries position) refl (sym (slice_get-map formula_number d.entries position) ∙ f)
    where
      go : (o : Option PoolEntry) → slice_get d.entries position ≡ o → option_map formula_number o ≡ Some number → IsNumberAt position number
      go None e g = absurd (cc)
      go (Some x) e g = record { entry = x; found = e; same = (let same : x.formula ≡ number = cc in same) }

  pub deep_later : (ms : List Node) → Extends ns ms → (i : ℕ) (e : PoolEntry) → slice_get d.entries i ≡ Some e → IsDeep ms e.formula → HasDeep (branch_in ns d)
  deep_later ms g i e f deep = record {
    position = i;
    formula = formula_at ns e.formula;
    says = record { entry = entry_in ns e; found = pure_entry ns d.entries i e f; is = refl };
    deep = record { deep = λ s. deep.deep (subst (λ x. IsShallow (formula_in x)) (sym (item_kept ns ms g e.formula (over.formulas i e f).within)) s) };
  }
