-- Entries stating that terms are whole numbers, by the representatives of classes.
use Rattle.std.proofs.Common.{◌≡◌, inl, inr, ℕ, ◌+◌, ◌<◌, ◌≤◌, Bool, true, false, cond, nat_eq, List, length, Option, Some, None, refl, sym, ap, ◌∙◌, subst, arith}
use Rattle.std.specs.Prelude.{slice_get, slice_index}
use Rattle.std.proofs.lemmas.Bool.{cases_lt, eqb-true, eq-eqb}
use Rattle.std.proofs.lemmas.Option.{slice_get_within}
use Rattle.base.specs.TypeData.{NumType}
use Rattle.fol.specs.FormulaData.{TermData, FormulaData, IsFormula}
use Rattle.term_pool.specs.declared.node.Node.{Node}
use Rattle.certificates.specs.BranchesBranch.{Entry, Says}
use Rattle.tableau.specs.PoolBranches.{BranchData, entry_in, branch_in}
use Rattle.tableau.specs.declared.entry.PoolEntry.{PoolEntry}
use Rattle.tableau.proofs.AnswerLemmas.{stored, pure_entry}
use Rattle.tableau.specs.WholeNumbers.{IsNumberSaid}
use Rattle.row_reasoning.specs.Numbers.{term_at, formula_at, IsNumberEntry, IsNumberOf, HasEntry, AreNumberEntries}
use Rattle.row_reasoning.specs.declared.values.numbers.NumberEntry.{NumberEntry}

pub says_entry : (ns : List Node) (d : BranchData) (i : ℕ) (e : PoolEntry) → slice_get d.entries i ≡ Some e → Says (branch_in ns d) i (formula_at ns e.formula)
says_entry ns d i e found = record { entry = entry_in ns e; found = pure_entry ns d.entries i e found; is = refl }

-- the entry states the formula with its number
record IsEntryOf (ns : List Node) (d : BranchData) (i : ℕ) (p : FormulaData) : Type 0 where
  entry : PoolEntry
  found : slice_get d.entries i ≡ Some entry
  is : formula_at ns entry.formula ≡ p

entry_of : (ns : List Node) (d : BranchData) (i : ℕ) (p : FormulaData) → Says (branch_in ns d) i p → IsEntryOf ns d i p
entry_of ns d i p says =
    let it = stored ns d.entries i says.entry says.found in
    record { entry = it.entry; found = it.found; is = ap (λ (e : Entry). e.formula) it.is ∙ says.is }

-- the first `count` entries
pub record AreFirstNumbers (ns : List Node) (d : BranchData) (names : List ℕ) (count : ℕ) (found : ℕ → Option NumberEntry) : Type 0 where
  pub right : (name : ℕ) (entry : NumberEntry) → found name ≡ Some entry → IsNumberOf ns (branch_in ns d) names name entry
  pub all : (i : ℕ) (t : TermData) → i < count → Says (branch_in ns d) i (IsFormula NumType t) → HasEntry ns names found t

module _ (ns : List Node) (d : BranchData) (names : List ℕ) where
  pub numbers_begun : (found : ℕ → Option NumberEntry) → ((name : ℕ) → found name ≡ None) → AreFirstNumbers ns d names 0 found
  numbers_begun found none = record {
    right = λ name entry e. absurd (let never : None ≡ Some entry = sym (none name) ∙ e in cc);
    all = λ i t w h. absurd (omega (arith, w));
  }

  -- what the last of them states
  last_is : (count i : ℕ) (e : PoolEntry) (t : TermData) → slice_get d.entries count ≡ Some e → i < count + 1 → count ≤ i → Says (branch_in ns d) i (IsFormula NumType t) → formula_at ns e.formula ≡ IsFormula NumType t
  last_is count i e t is w v says =
      let same : i ≡ count = omega (arith, w, v) in
      let it = entry_of ns d i (IsFormula NumType t) says in
      let both : Some e ≡ Some it.entry = sym is ∙ ap (slice_get d.entries) (sym same) ∙ it.found in
      let one : e ≡ it.entry = cc in
      ap (λ (x : PoolEntry). formula_at ns x.formula) one ∙ it.is

  -- the next entry states no such thing
  pub numbers_same : (count : ℕ) (e : PoolEntry) (found : ℕ → Option NumberEntry) → AreFirstNumbers ns d names count found → slice_get d.entries count ≡ Some e → ((t : TermData) → formula_at ns e.formula ≡ IsFormula NumType t → ⊥) → AreFirstNumbers ns d names (count + 1) found
  numbers_same count e found h is none = record {
    right = h.right;
    all = λ i t w says. elim (cases_lt i count) [ inl v ↦ h.all i t v says | inr v ↦ absurd (none t (last_is count i e t is w v says)) ];
  }

  -- there is no such entry
  pub numbers_past : (count : ℕ) (found : ℕ → Option NumberEntry) → AreFirstNumbers ns d names count found → slice_get d.entries count ≡ None → AreFirstNumbers ns d names (count + 1) found
  numbers_past count found h none = record {
    right = h.right;
    all = λ i t w says. elim (cases_lt i count) [
      | inl v ↦ h.all i t v says
      | inr v ↦ absurd (
          let same : i ≡ count = omega (arith, w, v) in
          let it = entry_of ns d i (IsFormula NumType t) says in
          let never : None ≡ Some it.entry = sym none ∙ ap (slice_get d.entries) (sym same) ∙ it.found in
          cc)
    ];
  }

  -- the next entry states this of a term
  pub numbers_more : (count : ℕ) (e : PoolEntry) (term : ℕ) (found more : ℕ → Option NumberEntry) → AreFirstNumbers ns d names count found → slice_get d.entries count ≡ Some e → IsNumberSaid ns e.formula term → ((name : ℕ) → more name ≡ cond (nat_eq (slice_index names term) name) (Some (record { entry = count; term = term })) (found name)) → AreFirstNumbers ns d names (count + 1) more
  numbers_more count e term found more h is said put = record { right = λ name entry q. right name entry (nat_eq (slice_index names term) name) refl (sym (put name) ∙ q); all = all }
    where
      new : NumberEntry
      new = record { entry = count; term = term }

      is_new : IsNumberEntry ns (branch_in ns d) new
      is_new = record { number = said.number; says = subst (Says (branch_in ns d) count) said.is (says_entry ns d count e is) }

      right : (name : ℕ) (entry : NumberEntry) (b : Bool) → nat_eq (slice_index names term) name ≡ b → cond b (Some new) (found name) ≡ Some entry → IsNumberOf ns (branch_in ns d) names name entry
      right name entry true s q =
          let same : new ≡ entry = cc in
          subst (IsNumberOf ns (branch_in ns d) names name) same (record { is_number = is_new; named = eqb-true (slice_index names term) name s })
      right name entry false s q = h.right name entry q

      kept : (name : ℕ) (b : Bool) → (found name ≡ None → ⊥) → cond b (Some new) (found name) ≡ None → ⊥
      kept name true some q = (let never : Some new ≡ None = q in cc)
      kept name false some q = some q

      fresh : cond (nat_eq (slice_index names term) (slice_index names term)) (Some new) (found (slice_index names term)) ≡ Some new
      fresh = ap (λ b. cond b (Some new) (found (slice_index names term))) (eq-eqb (slice_index names term) (slice_index names term) refl)

      all : (i : ℕ) (t : TermData) → i < count + 1 → Says (branch_in ns d) i (IsFormula NumType t) → HasEntry ns names more t
      all i t w says = elim (cases_lt i count) [
        | inl v ↦ (
            let old = h.all i t v says in
            record { number = old.number; is_number = old.is_number; is = old.is; has = λ q. kept (slice_index names old.number) (nat_eq (slice_index names term) (slice_index names old.number)) old.has (sym (put (slice_index names old.number)) ∙ q) })
        | inr v ↦ (
            let both : IsFormula NumType (term_at ns term) ≡ IsFormula NumType t = sym said.is ∙ last_is count i e t is w v says in
            let same : term_at ns term ≡ t = cc in
            record { number = term; is_number = said.number; is = same; has = λ q. (let never : Some new ≡ None = sym fresh ∙ sym (put (slice_index names term)) ∙ q in cc) })
      ]

pub numbers_done : (ns : List Node) (d : BranchData) (names : List ℕ) (count : ℕ) (found : ℕ → Option NumberEntry) → length d.entries ≤ count → AreFirstNumbers ns d names count found → AreNumberEntries ns (branch_in ns d) names found
numbers_done ns d names count found w h = record {
  right = h.right;
  all = λ t s. (
      let it = entry_of ns d s.position (IsFormula NumType t) s.says in
      let v = slice_get_within d.entries s.position it.entry it.found in
      h.all s.position t (omega (arith, v, w)) s.says);
}
