-- The meaning of the stored numbers for the branch.
use Rattle.std.proofs.Common.{◌≡◌, ◌≢◌, ◌⊎◌, inl, inr, ℕ, zero, suc, ◌<◌, ◌≤◌, Bool, true, false, List, [], ◌∷◌, length, get_or, map, take, Option, Some, None, refl, sym, ap, ◌∙◌, subst, arith}
use Rattle.std.specs.Prelude.{slice_get, MatchOption}
use Rattle.std.specs.Option.{option_map}
use Rattle.std.proofs.lemmas.List.{take_all, get_or_past}
use Rattle.std.proofs.lemmas.Option.{slice_get-map, slice_get_within}
use Rattle.fol.specs.FormulaData.{TermData, FormulaData}
use Rattle.term_pool.specs.Items.{Item, TermItem, FormulaItem, sort_of, TermSort, FormulaSort, term_in, formula_in}
use Rattle.term_pool.specs.Pools.{item_at, IsMade, IsOneNumber}
use Rattle.term_pool.specs.declared.node.Node.{Node}
use Rattle.term_pool.proofs.ShapeLemmas.{a_term, a_formula}
use Rattle.certificates.specs.BranchesParts.{IsIn, IsInFormula, Itself}
use Rattle.certificates.specs.BranchesBranch.{Branch, Entry, Says, Stands, IsNew, Holds, IsTerm, IsGeneration}
use Rattle.tableau.specs.Logs.{value_in}
use Rattle.tableau.specs.Marks.{outer_parts, IsOneOf, IsUnder, Itself as Top, Below, HasAtMost, IsNode, IsClosed}
use Rattle.tableau.specs.PoolBranches.{BranchData, entry_in, branch_in, mark_at, IsFormulaNumber, IsTermNumber, IsFirstEntry, IsNoTerm, IsFirstAt, IsNotAmong, AreFirsts, IsFrom, AreLeast, IsOver}
use Rattle.tableau.specs.declared.entry.PoolEntry.{PoolEntry}
use Rattle.tableau.specs.declared.log.Change.{Change}
use Rattle.tableau.proofs.MarkLemmas.{HasValue, value_of, at_most_more, at_most_itself, earlier}
use Rattle.tableau.proofs.InsideLemmas.{IsInItem, IsInPart, stands_in, stands_over}

-- ---- entries as pure data and by number

-- an entry of the branch by number
pub record IsStored (ns : List Node) (es : List PoolEntry) (i : ℕ) (e : Entry) : Type 0 where
  pub entry : PoolEntry
  pub found : slice_get es i ≡ Some entry
  pub is : entry_in ns entry ≡ e

pub stored : (ns : List Node) (es : List PoolEntry) (i : ℕ) (e : Entry) → slice_get (map (entry_in ns) es) i ≡ Some e → IsStored ns es i e
stored ns es i e h = go (slice_get es i) refl (sym (slice_get-map (entry_in ns) es i) ∙ h)
  where
    go : (o : Option PoolEntry) → slice_get es i ≡ o → option_map (entry_in ns) o ≡ Some e → IsStored ns es i e
    go None f g = absurd (cc)
    go (Some s) f g = record { entry = s; found = f; is = (let same : entry_in ns s ≡ e = cc in same) }

pub pure_entry : (ns : List Node) (es : List PoolEntry) (i : ℕ) (s : PoolEntry) → slice_get es i ≡ Some s → slice_get (map (entry_in ns) es) i ≡ Some (entry_in ns s)
pure_entry ns es i s h = slice_get-map (entry_in ns) es i ∙ ap (option_map (entry_in ns)) h

-- ---- the whole invariant

module _ (ns : List Node) (d : BranchData) (over : IsOver ns d) where
  pub all_firsts : AreFirsts d.entries d.firsts
  all_firsts =
      subst (λ es. AreFirsts es d.firsts) (take_all (length d.entries) d.entries (omega arith))
      (subst (AreFirsts (take (length d.entries) d.entries)) (take_all (length d.entries) d.firsts (let l = over.one_first in omega (arith, l)))
      (over.firsts (length d.entries) (omega arith)))

  last_mark : mark_at d (length d.entries) ≡ length d.generations
  last_mark = get_or_past d.marks (length d.entries) (length d.generations) (let l = over.one_mark in omega (arith, l))

  pub all_least : AreLeast ns d.entries d.generations
  all_least =
      subst (λ es. AreLeast ns es d.generations) (take_all (length d.entries) d.entries (omega arith))
      (subst (AreLeast ns (take (length d.entries) d.entries)) (ap (λ k. take k d.generations) last_mark ∙ take_all (length d.generations) d.generations (omega arith))
      (over.generations (length d.entries) (omega arith)))

-- ---- the entry of a formula

module _ (ns : List Node) (one : IsOneNumber ns) where
  same_formula : (n m : ℕ) → IsFormulaNumber ns n → IsFormulaNumber ns m → formula_in (item_at ns n) ≡ formula_in (item_at ns m) → n ≡ m
  same_formula n m p q e = one.one n m p.within q.within (sym (a_formula (item_at ns n) p.sort) ∙ ap FormulaItem e ∙ a_formula (item_at ns m) q.sort)

  module _ (d : BranchData) (over : IsOver ns d) (n : ℕ) (formula : IsFormulaNumber ns n) where
    -- an entry that is the formula has its number
    said : (i : ℕ) → Says (branch_in ns d) i (formula_in (item_at ns n)) → (s : PoolEntry) × (slice_get d.entries i ≡ Some s) × (s.formula ≡ n)
    said i h =
        let it = stored ns d.entries i h.entry h.found in
        let same : formula_in (item_at ns it.entry.formula) ≡ formula_in (item_at ns n) = ap (λ (e : Entry). e.formula) it.is ∙ h.is in
        (it.entry, it.found, same_formula it.entry.formula n (over.formulas i it.entry it.found) formula same)

    says : (i : ℕ) (s : PoolEntry) → slice_get d.entries i ≡ Some s → s.formula ≡ n → Says (branch_in ns d) i (formula_in (item_at ns n))
    says i s found e = record { entry = entry_in ns s; found = pure_entry ns d.entries i s found; is = ap (λ k. formula_in (item_at ns k)) e }

    pub first_says : (r : Option ℕ) → r ≡ value_in d.firsts n → MatchOption r (IsNew (branch_in ns d) (formula_in (item_at ns n))) (IsFirstEntry (branch_in ns d) (formula_in (item_at ns n)))
    first_says r e = go r (subst (λ o. MatchOption o (IsNotAmong d.entries n) (IsFirstAt d.entries n)) (sym e) ((all_firsts ns d over).each n))
      where
        go : (r : Option ℕ) → MatchOption r (IsNotAmong d.entries n) (IsFirstAt d.entries n) → MatchOption r (IsNew (branch_in ns d) (formula_in (item_at ns n))) (IsFirstEntry (branch_in ns d) (formula_in (item_at ns n)))
        go None h = record { new = λ s. (let it = said s.position s.says in h.none s.position it.0 it.1 it.2) }
        go (Some i) h = record {
          says = says i h.entry h.found h.is;
          first = λ j w s. (let it = said j s in h.first j it.0 w it.1 it.2);
        }

-- ---- the generation of a term

-- a term below a number outside quantifiers occurs in its item
pub under_inside : (ns : List Node) (top n : ℕ) → IsUnder ns top n → (t : TermData) → IsInItem t (item_at ns n) → IsInItem t (item_at ns top)
under_inside ns top _ Top t h = h
under_inside ns top _ (Below m node part u made one) t h = under_inside ns top m u t (stands_over ns m t node part made one h)

-- the term has a number with a value of at most this
pub record HasNumber (ns : List Node) (gs : List Change) (t : TermData) (most : ℕ) : Type 0 where
  pub number : ℕ
  pub within : number < length ns
  pub is : item_at ns number ≡ TermItem t
  pub small : HasAtMost gs number most

module _ (ns : List Node) (gs : List Change) (closed : IsClosed ns gs) (t : TermData) where
  -- a term that occurs in an item with a value has a number with a value at most as great
  number_in : (k n v : ℕ) → n < k → value_in gs n ≡ Some v → IsInItem t (item_at ns n) → HasNumber ns gs t v
  number_in zero n v w e h = absurd (omega arith)
  number_in (suc k) n v w e h = go (stands_in ns n t (closed.nodes n v e).node (closed.nodes n v e).made h) (λ p u f. number_in k p u f)
    where
      go : (item_at ns n ≡ TermItem t) ⊎ IsInPart ns t (closed.nodes n v e).node → ((p u : ℕ) → p < k → value_in gs p ≡ Some u → IsInItem t (item_at ns p) → HasNumber ns gs t u) → HasNumber ns gs t v
      go (inl is) rest = record { number = n; within = slice_get_within ns n (closed.nodes n v e).node (closed.nodes n v e).made.found; is = is; small = at_most_itself gs n v e }
      go (inr part) rest =
          let has = value_of gs part.part v (closed.parts n v (closed.nodes n v e).node part.part e (closed.nodes n v e).made.found part.one) in
          let less : part.part < k = (let f = earlier ns n (closed.nodes n v e).node part.part (closed.nodes n v e).made.parts part.one in omega (arith, f, w)) in
          let found = rest part.part has.value less has.is part.inside in
          record { number = found.number; within = found.within; is = found.is; small = at_most_more gs found.number has.value v has.small found.small }

  pub number_found : (n most : ℕ) → HasAtMost gs n most → IsInItem t (item_at ns n) → HasNumber ns gs t most
  number_found n most h i =
      let has = value_of gs n most h in
      let found = number_in (suc n) n has.value (omega arith) has.is i in
      record { number = found.number; within = found.within; is = found.is; small = at_most_more gs found.number has.value most has.small found.small }

module _ (ns : List Node) (one : IsOneNumber ns) (d : BranchData) (over : IsOver ns d) (n : ℕ) (term : IsTermNumber ns n) where
  is_term : item_at ns n ≡ TermItem (term_in (item_at ns n))
  is_term = sym (a_term (item_at ns n) term.sort)

  -- an entry in which the term occurs gives the term's number a value of at most its own generation
  small : (g : ℕ) → Holds (branch_in ns d) (term_in (item_at ns n)) g → HasAtMost d.generations n g
  small g h =
      let it = stored ns d.entries h.position h.entry h.found in
      let formula = over.formulas h.position it.entry it.found in
      let generation : it.entry.generation ≡ g = ap (λ (e : Entry). e.generation) it.is ∙ h.same in
      let in_formula : IsInFormula (term_in (item_at ns n)) (formula_in (item_at ns it.entry.formula)) = subst (λ (e : Entry). IsInFormula (term_in (item_at ns n)) e.formula) (sym it.is) h.inside in
      let inside : IsInItem (term_in (item_at ns n)) (item_at ns it.entry.formula) = subst (IsInItem (term_in (item_at ns n))) (a_formula (item_at ns it.entry.formula) formula.sort) in_formula in
      let least = all_least ns d over in
      let found = number_found ns d.generations least.closed (term_in (item_at ns n)) it.entry.formula it.entry.generation (least.entries h.position it.entry it.found) inside in
      let same : found.number ≡ n = one.one found.number n found.within term.within (found.is ∙ sym is_term) in
      subst (HasAtMost d.generations n) generation (subst (λ m. HasAtMost d.generations m it.entry.generation) same found.small)

  held : (g : ℕ) → IsFrom ns d.entries n g → Holds (branch_in ns d) (term_in (item_at ns n)) g
  held g from =
      let formula = over.formulas from.position from.entry from.found in
      let inside : IsInItem (term_in (item_at ns n)) (item_at ns from.entry.formula) = under_inside ns from.entry.formula n from.under (term_in (item_at ns n)) (subst (IsInItem (term_in (item_at ns n))) (sym is_term) Itself) in
      record {
        position = from.position;
        entry = entry_in ns from.entry;
        found = pure_entry ns d.entries from.position from.entry from.found;
        inside = subst (IsInItem (term_in (item_at ns n))) (sym (a_formula (item_at ns from.entry.formula) formula.sort)) inside;
        same = from.same;
      }

  pub generation_is : (r : Option ℕ) → r ≡ value_in d.generations n → MatchOption r (IsNoTerm (branch_in ns d) (term_in (item_at ns n))) (IsGeneration (branch_in ns d) (term_in (item_at ns n)))
  generation_is None e = record { none = λ h. (let has = value_of d.generations n h.generation (small h.generation h.holds) in let both : None ≡ Some has.value = e ∙ has.is in absurd (cc)) }
  generation_is (Some g) e = record {
    holds = held g ((all_least ns d over).from n g (sym e));
    least = λ m h. (let has = value_of d.generations n m (small m h) in let both : Some g ≡ Some has.value = e ∙ has.is in let same : g ≡ has.value = cc in let s = has.small in omega (arith, same, s));
  }
