-- Whether a given instance is due.
use Rattle.std.proofs.Common.{◌≡◌, ◌↔◌, ℕ, ◌+◌, ◌<◌, ◌≤◌, max, Bool, IsTrue, List, Some, sym, ap, ◌∙◌, subst, arith}
use Rattle.std.specs.Prelude.{slice_get}
use Rattle.std.proofs.lemmas.Option.{same_Some}
use Rattle.fol.specs.Depth.{term_depth}
use Rattle.fol.specs.declared.operators.Quantifier.TheVariants.{ForAll}
use Rattle.fol.specs.FormulaData.{TermData, FormulaData}
use Rattle.certificates.specs.Quantified.{IsBodyWith}
use Rattle.term_pool.specs.declared.node.Node.{Node}
use Rattle.certificates.specs.BranchesBranch.{Branch, Entry, IsGeneration}
use Rattle.certificates.specs.Due.{IsShallow, InstanceDue, IsMatched, HasInstance}
use Rattle.tableau.specs.PoolBranches.{BranchData, entry_in, branch_in}
use Rattle.tableau.specs.declared.entry.PoolEntry.{PoolEntry}
use Rattle.tableau.proofs.AnswerLemmas.{pure_entry}
use Rattle.tableau.specs.Numbers.{formula_at}
use Rattle.ematching.specs.Instances.{IsNextGeneration}

one_generation : (b : Branch) (t : TermData) (g h : ℕ) → IsGeneration b t g → IsGeneration b t h → g ≡ h
one_generation b t g h is also = (let l = is.least h also.holds in let m = also.least g is.holds in omega (arith, l, m))

pub next_given : (b : Branch) (generation older before : ℕ) (t : TermData) → IsGeneration b t older → before ≡ max generation older → term_depth t ≤ 2000 → (next : ℕ) (known : Bool) → IsTrue known ↔ ((before < 3) × (next ≡ before + 1)) → IsTrue known ↔ IsNextGeneration b generation t next
next_given b generation older before t is e shallow next known h = (
  λ yes. (
      let all = h.0 yes in
      let few = all.0 in
      let after = all.1 in
      record {
        older = older;
        is_older = is;
        is_next = omega (arith, e, after);
        few = omega (arith, few, after);
        shallow = shallow;
      }),
  λ due. (
      let same = one_generation b t due.older older due.is_older is in
      let after = due.is_next in
      let few = due.few in
      h.1 (omega (arith, e, same, after, few), omega (arith, e, same, after))),
)

module _ (ns : List Node) (d : BranchData) (i : ℕ) (e : PoolEntry) (found : slice_get d.entries i ≡ Some e) (t : TermData) (p : FormulaData) (g : ℕ) where
  abbrev b : Branch
  b = branch_in ns d

  pub instance_given : (matched next fresh shallow known : Bool) → IsTrue matched ↔ IsMatched b t (formula_at ns e.formula) → IsTrue next ↔ IsNextGeneration b e.generation t g → IsTrue fresh ↔ (IsBodyWith ForAll t (formula_at ns e.formula) p × (HasInstance b (formula_at ns e.formula) t → ⊥)) → IsTrue shallow ↔ IsShallow p → IsTrue known ↔ (IsTrue matched × IsTrue next × IsTrue fresh × IsTrue shallow) → IsTrue known ↔ InstanceDue b i t p g
  instance_given matched next fresh shallow known m n f s h = (
    λ yes. (
        let all = h.0 yes in
        let after = n.0 all.1 in
        let new = f.0 all.2 in
        record {
          entry = entry_in ns e;
          found = pure_entry ns d.entries i e found;
          matched = m.0 all.0;
          is_body = new.0;
          older = after.older;
          is_older = after.is_older;
          next = after.is_next;
          few = after.few;
          unsaid = new.1;
          shallow = s.0 all.3;
          shallow_term = after.shallow;
        }),
    λ due. (
        let same : due.entry ≡ entry_in ns e = same_Some due.entry (entry_in ns e) (sym due.found ∙ pure_entry ns d.entries i e found) in
        let says : due.entry.formula ≡ formula_at ns e.formula = ap (λ (x : Entry). x.formula) same in
        let from : due.entry.generation ≡ e.generation = ap (λ (x : Entry). x.generation) same in
        h.1 (
          m.1 (subst (IsMatched b t) says due.matched),
          n.1 (record { older = due.older; is_older = due.is_older; is_next = due.next ∙ ap (λ k. max k due.older + 1) from; few = due.few; shallow = due.shallow_term }),
          f.1 (subst (λ q. IsBodyWith ForAll t q p) says due.is_body, λ has. due.unsaid (subst (λ q. HasInstance b q t) (sym says) has)),
          s.1 due.shallow,
        )),
  )
