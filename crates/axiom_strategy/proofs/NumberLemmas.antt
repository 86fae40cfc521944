-- Marks of the terms that entries state to be whole numbers.
use Rattle.std.proofs.Common.{◌≡◌, ◌⊎◌, inl, inr, ℕ, ◌+◌, ◌<◌, ◌≤◌, Bool, true, false, List, length, set, Option, Some, None, sym, ap, ◌∙◌, subst, arith}
use Rattle.std.specs.Prelude.{slice_get, MatchOption}
use Rattle.std.proofs.lemmas.Bool.{cases_eq, cases_lt}
use Rattle.std.proofs.lemmas.List.{get_or-set_other, length-set}
use Rattle.std.proofs.lemmas.Grind.{get_or-set_at}
use Rattle.base.specs.TypeData.{NumType}
use Rattle.fol.specs.FormulaData.{TermData, FormulaData, IsFormula}
use Rattle.term_pool.specs.Items.{TermItem}
use Rattle.term_pool.specs.Pools.{item_at, IsOneNumber}
use Rattle.term_pool.specs.declared.node.Node.{Node}
use Rattle.term_pool.proofs.ShapeLemmas.{a_term}
use Rattle.certificates.specs.BranchesBranch.{Branch, Entry, Says}
use Rattle.tableau.specs.PoolBranches.{BranchData, branch_in, IsTermNumber}
use Rattle.tableau.specs.declared.entry.PoolEntry.{PoolEntry}
use Rattle.tableau.proofs.AnswerLemmas.{stored}
use Rattle.tableau.specs.Numbers.{formula_at}
use Rattle.tableau.proofs.EntryLemmas.{entry_says, said_is, says_within}
use Rattle.tableau.specs.Terms.{term_at}
use Rattle.tableau.specs.WholeNumbers.{IsNumberSaid}
use Rattle.axiom_strategy.specs.Numbers.{mark_at, SaysNumber, SaysNoNumber, AreNumberMarks}

-- an entry states one formula
pub says_one : (b : Branch) (i : ℕ) (p q : FormulaData) → Says b i p → Says b i q → p ≡ q
says_one b i p q h k =
    let both : Some h.entry ≡ Some k.entry = sym h.found ∙ k.found in
    let same : h.entry ≡ k.entry = cc in
    sym h.is ∙ ap (λ (e : Entry). e.formula) same ∙ k.is

-- a number past the entries states nothing
pub past_says : (ns : List Node) (d : BranchData) (i : ℕ) (p : FormulaData) → slice_get d.entries i ≡ None → Says (branch_in ns d) i p → ⊥
past_says ns d i p none h =
    let it = stored ns d.entries i h.entry h.found in
    let never : None ≡ Some it.entry = sym none ∙ it.found in
    absurd (cc)

pub same_term : (ns : List Node) (one : IsOneNumber ns) (n m : ℕ) → IsTermNumber ns n → IsTermNumber ns m → term_at ns n ≡ term_at ns m → n ≡ m
same_term ns one n m s t e = one.one n m s.within t.within (sym (a_term (item_at ns n) s.sort) ∙ ap TermItem e ∙ a_term (item_at ns m) t.sort)

-- ---- one entry

pub past_number : (ns : List Node) (d : BranchData) (i : ℕ) → slice_get d.entries i ≡ None → SaysNoNumber (branch_in ns d) i
past_number ns d i none = record { none = λ t h. past_says ns d i (IsFormula NumType t) none h }

pub entry_number : (ns : List Node) (d : BranchData) (i : ℕ) (e : PoolEntry) → slice_get d.entries i ≡ Some e → (o : Option ℕ) → MatchOption o ((t : TermData) → formula_at ns e.formula ≡ IsFormula NumType t → ⊥) (IsNumberSaid ns e.formula) → MatchOption o (SaysNoNumber (branch_in ns d) i) (SaysNumber ns (branch_in ns d) i)
entry_number ns d i e found None h = record { none = λ t k. h t (sym (said_is ns d i e (IsFormula NumType t) found k)) }
entry_number ns d i e found (Some term) h = record { number = h.number; says = subst (Says (branch_in ns d) i) h.is (entry_says ns d i e found) }

-- ---- entry after entry

-- one of the first entries states it
pub record IsSaidBefore (b : Branch) (count : ℕ) (p : FormulaData) : Type 0 where
  pub position : ℕ
  pub before : position < count
  pub says : Says b position p

-- the terms that the first entries state to be numbers
pub record AreMarkedBefore (ns : List Node) (b : Branch) (count : ℕ) (marks : List Bool) : Type 0 where
  pub one_each : length marks ≡ length ns
  pub marked : (n : ℕ) → IsTermNumber ns n → mark_at marks n ≡ true → IsSaidBefore b count (IsFormula NumType (term_at ns n))
  pub all : (n : ℕ) → IsTermNumber ns n → IsSaidBefore b count (IsFormula NumType (term_at ns n)) → mark_at marks n ≡ true

module _ (ns : List Node) (b : Branch) where
  said_more : (count : ℕ) (p : FormulaData) → IsSaidBefore b count p → IsSaidBefore b (count + 1) p
  said_more count p h = record { position = h.position; before = (let w = h.before in omega (arith, w)); says = h.says }

  -- by an earlier one, or by the last of them
  said_cases : (count : ℕ) (p : FormulaData) → IsSaidBefore b (count + 1) p → IsSaidBefore b count p ⊎ Says b count p
  said_cases count p h = elim (cases_lt h.position count) [
    | inl w ↦ inl (record { position = h.position; before = w; says = h.says })
    | inr w ↦ inr (let l = h.before in let at : h.position ≡ count = omega (arith, l, w) in subst (λ k. Says b k p) at h.says)
  ]

  pub marks_begun : (marks : List Bool) → length marks ≡ length ns → ((n : ℕ) → n < length ns → mark_at marks n ≡ false) → AreMarkedBefore ns b 0 marks
  marks_begun marks long none = record {
    one_each = long;
    marked = λ n t m. absurd (let never : true ≡ false = sym m ∙ none n t.within in cc);
    all = λ n t h. absurd (let w = h.before in omega (arith, w));
  }

  pub mark_same : (count : ℕ) (marks : List Bool) → AreMarkedBefore ns b count marks → SaysNoNumber b count → AreMarkedBefore ns b (count + 1) marks
  mark_same count marks h none = record {
    one_each = h.one_each;
    marked = λ n t m. said_more count (IsFormula NumType (term_at ns n)) (h.marked n t m);
    all = λ n t s. elim (said_cases count (IsFormula NumType (term_at ns n)) s) [ inl o ↦ h.all n t o | inr o ↦ absurd (none.none (term_at ns n) o) ];
  }

  module _ (one : IsOneNumber ns) where
    pub mark_more : (count : ℕ) (marks : List Bool) (term : ℕ) → AreMarkedBefore ns b count marks → SaysNumber ns b count term → AreMarkedBefore ns b (count + 1) (set marks term true)
    mark_more count marks term h said = record { one_each = length-set marks term true ∙ h.one_each; marked = marked; all = all }
      where
        marked : (n : ℕ) → IsTermNumber ns n → mark_at (set marks term true) n ≡ true → IsSaidBefore b (count + 1) (IsFormula NumType (term_at ns n))
        marked n t m = elim (cases_eq n term) [
          | inl q ↦ record { position = count; before = omega arith; says = subst (λ k. Says b count (IsFormula NumType (term_at ns k))) (sym q) said.says }
          | inr q ↦ said_more count (IsFormula NumType (term_at ns n)) (h.marked n t (sym (get_or-set_other marks term n true false q) ∙ m))
        ]

        at_term : (n : ℕ) → n ≡ term → mark_at (set marks term true) n ≡ true
        at_term n q = let l = h.one_each in let w = said.number.within in get_or-set_at marks term n true false q (omega (arith, l, w))

        all : (n : ℕ) → IsTermNumber ns n → IsSaidBefore b (count + 1) (IsFormula NumType (term_at ns n)) → mark_at (set marks term true) n ≡ true
        all n t s = elim (cases_eq n term) [
          | inl q ↦ at_term n q
          | inr q ↦ elim (said_cases count (IsFormula NumType (term_at ns n)) s) [
            | inl o ↦ get_or-set_other marks term n true false q ∙ h.all n t o
            | inr o ↦ absurd (q (
                let both : IsFormula NumType (term_at ns n) ≡ IsFormula NumType (term_at ns term) = says_one b count (IsFormula NumType (term_at ns n)) (IsFormula NumType (term_at ns term)) o said.says in
                let same : term_at ns n ≡ term_at ns term = cc in
                same_term ns one n term t said.number same))
          ]
        ]

pub marks_done : (ns : List Node) (d : BranchData) (count : ℕ) (marks : List Bool) → length d.entries ≤ count → AreMarkedBefore ns (branch_in ns d) count marks → AreNumberMarks ns (branch_in ns d) marks
marks_done ns d count marks w h = record {
  one_each = h.one_each;
  each = λ n t. (λ m. (let s = h.marked n t m in record { position = s.position; says = s.says }), λ s. h.all n t (record { position = s.position; before = (let l = says_within ns d s.position (IsFormula NumType (term_at ns n)) s.says in omega (arith, l, w)); says = s.says }));
}
