-- The depth of a branch's entries.
use Rattle.std.proofs.Common.{◌≡◌, inr, ℕ, zero, suc, ◌+◌, ◌≤◌, Bool, true, false, List, [], ◌∷◌, length, map, Some, refl, subst, arith, below_more}
use Rattle.std.specs.Prelude.{slice_get, MatchBool}
use Rattle.std.proofs.lemmas.Option.{slice_get_within}
use Rattle.term_pool.specs.Items.{FormulaSort, sort_of}
use Rattle.term_pool.specs.Pools.{item_at}
use Rattle.term_pool.specs.declared.node.Node.{Node}
use Rattle.tableau.specs.PoolBranches.{BranchData, branch_in, IsOver}
use Rattle.tableau.specs.declared.entry.PoolEntry.{PoolEntry}
use Rattle.tableau.specs.Numbers.{formula_at}
use Rattle.tableau.proofs.EntryLemmas.{entry_says}
use Rattle.tableau.specs.Terms.{formula_number}
use Rattle.term_pool.specs.Forms.{IsDenialOf}
use Rattle.closing_rules.proofs.FormLemmas.{denial_is}
use Rattle.certificates.specs.Due.{IsShallow}
use Rattle.explanations.specs.BranchGraphs.{IsLow, AreLow}
use Rattle.closing_rules.specs.Depths.{IsDeep, HasDeep, AreLowBefore}

pub either : (b : Bool) (P Q R S : Type 0) → (P → R) → (Q → S) → MatchBool b P Q → MatchBool b R S
either true P Q R S f g m = f m
either false P Q R S f g m = g m

-- a formula is low if the formula that it negates is not too deep
pub low_denial : (ns : List Node) (n inner : ℕ) (b : Bool) → IsDenialOf ns n inner → IsDeep (formula_at ns n) → MatchBool b (IsShallow (formula_at ns inner)) (IsDeep (formula_at ns inner)) → MatchBool b (IsLow (formula_at ns n)) (IsDeep (formula_at ns n))
low_denial ns n inner b denial deep m = either b _ _ _ _ (λ s. inr (formula_at ns inner, denial_is ns n inner denial, s)) (λ d. deep) m

-- ---- entry after entry

pub none_low : (ns : List Node) (d : BranchData) → AreLowBefore ns d 0
none_low ns d = record { each = λ i e w f. absurd (omega (arith, w)) }

pub one_more : (ns : List Node) (d : BranchData) (i : ℕ) → AreLowBefore ns d i → ((e : PoolEntry) → slice_get d.entries i ≡ Some e → IsLow (formula_at ns e.formula)) → AreLowBefore ns d (i + 1)
one_more ns d i h at = record { each = λ j e w f. below_more (λ k. (x : PoolEntry) → slice_get d.entries k ≡ Some x → IsLow (formula_at ns x.formula)) i (λ k v x g. h.each k x v g) at j w e f }

pub this_low : (ns : List Node) (d : BranchData) (i : ℕ) (e : PoolEntry) → slice_get d.entries i ≡ Some e → IsLow (formula_at ns e.formula) → (x : PoolEntry) → slice_get d.entries i ≡ Some x → IsLow (formula_at ns x.formula)
this_low ns d i e found low x f = let same : e ≡ x = cc in subst (λ y. IsLow (formula_at ns y.formula)) same low

pub record IsNumberAt (es : List PoolEntry) (i n : ℕ) : Type 0 where
  pub entry : PoolEntry
  pub found : slice_get es i ≡ Some entry
  pub is : entry.formula ≡ n

pub mapped : (es : List PoolEntry) (i n : ℕ) → slice_get (map formula_number es) i ≡ Some n → IsNumberAt es i n
mapped [] i n f = absurd (cc)
mapped (e ∷ es) zero n f = record { entry = e; found = refl; is = cc }
mapped (e ∷ es) (suc i) n f = let it = mapped es i n f in record { entry = it.entry; found = it.found; is = it.is }

pub all_low : (ns : List Node) (d : BranchData) (count : ℕ) → IsOver ns d → length d.entries ≤ count → AreLowBefore ns d count → AreLow ns (map formula_number d.entries)
all_low ns d count over w h = record {
  formula = λ position number f. (let it = mapped d.entries position number f in subst (λ n. sort_of (item_at ns n) ≡ FormulaSort) it.is (over.formulas position it.entry it.found).sort);
  low = λ position number f. (let it = mapped d.entries position number f in subst (λ n. IsLow (formula_at ns n)) it.is (h.each position it.entry (let l = slice_get_within d.entries position it.entry it.found in omega (arith, l, w)) it.found));
}

pub deep_entry : (ns : List Node) (d : BranchData) (i : ℕ) (e : PoolEntry) → slice_get d.entries i ≡ Some e → IsDeep (formula_at ns e.formula) → HasDeep (branch_in ns d)
deep_entry ns d i e found deep = record { position = i; formula = formula_at ns e.formula; says = entry_says ns d i e found; deep = deep }
