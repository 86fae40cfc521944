-- Values of a branch while its pool is extended: those over a pool are also values over each extension, since all terms
-- of the branch have their numbers in the first pool.
use Rattle.std.proofs.Common.{◌≡◌, ℕ, ◌<◌, ◌≤◌, List, length, length-append, Option, Some, None, refl, sym, ap, ◌∙◌, subst, arith}
use Rattle.std.specs.Prelude.{slice_get}
use Rattle.fol.specs.FormulaData.{TermData}
use Rattle.linear_arith.specs.Inequality.{Inequality}
use Rattle.term_pool.specs.Items.{sort_of, term_in}
use Rattle.term_pool.specs.Pools.{IsOneNumber, Extends}
use Rattle.term_pool.specs.declared.node.Node.{Node}
use Rattle.term_pool.proofs.ItemLemmas.{item_kept}
use Rattle.certificates.specs.BranchesBranch.{Branch, IsTerm}
use Rattle.tableau.specs.Logs.{value_in}
use Rattle.tableau.specs.Marks.{IsUnder, Itself, Below}
use Rattle.tableau.specs.PoolBranches.{BranchData, branch_in, IsFormulaNumber, IsTermNumber, IsOver}
use Rattle.tableau.specs.declared.entry.PoolEntry.{PoolEntry}
use Rattle.tableau.proofs.AnswerLemmas.{all_least, generation_is}
use Rattle.tableau.proofs.MarkLemmas.{earlier}
use Rattle.tableau.proofs.PushLemmas.{over_still, says_still}
use Rattle.tableau.specs.Terms.{term_at}
use Rattle.row_reasoning.specs.Rows.{AreNames}
use Rattle.search.specs.Decisions.{IsValued}
use Rattle.search.specs.declared.values.OpenValues.{OpenValues}
use Rattle.step_checks.specs.Rows.{HasRows, IsMet}

-- the numbers that the terms of a branch have in the second pool are numbers of terms in the first one
pub record HaveNumbersIn (ns ms : List Node) (b : Branch) : Type 0 where
  pub number : (n : ℕ) → IsTermNumber ms n → IsTerm b (term_at ms n) → IsTermNumber ns n

-- the same for the numbers of the entries' formulas
pub record AreEntriesIn (ns : List Node) (d : BranchData) : Type 0 where
  pub formulas : (i : ℕ) (e : PoolEntry) → slice_get d.entries i ≡ Some e → IsFormulaNumber ns e.formula

-- what occurs in an item has no greater number
under_below : (ns : List Node) (top n : ℕ) → IsUnder ns top n → n ≤ top
under_below ns top _ Itself = omega arith
under_below ns top _ (Below m node part u made one) = (let w = under_below ns top m u in let v = earlier ns m node part made.parts one in omega (arith, w, v))

module _ (ns ms : List Node) (grown : Extends ns ms) where
  number_after : (n : ℕ) → IsTermNumber ns n → IsTermNumber ms n
  number_after n h = record {
    within = (let l = ap length grown.is in let w = h.within in omega (arith, l, length-append ns grown.more, w));
    sort = ap sort_of (item_kept ns ms grown n h.within) ∙ h.sort;
  }

  term_after : (n : ℕ) → IsTermNumber ns n → term_at ms n ≡ term_at ns n
  term_after n h = ap term_in (item_kept ns ms grown n h.within)

  -- ---- where the terms have their numbers

  -- a term occurs under an entry's formula, which is a number of the first pool
  pub terms_of_entries : IsOneNumber ms → (d : BranchData) → IsOver ms d → AreEntriesIn ns d → HaveNumbersIn ns ms (branch_in ms d)
  terms_of_entries one d over entries = record { number = λ n number stands. go n number stands (value_in d.generations n) refl }
    where
      go : (n : ℕ) → IsTermNumber ms n → IsTerm (branch_in ms d) (term_at ms n) → (o : Option ℕ) → o ≡ value_in d.generations n → IsTermNumber ns n
      go n number stands None e = absurd ((generation_is ms one d over n number None e).none stands)
      go n number stands (Some g) e =
          let from = (all_least ms d over).from n g (sym e) in
          let top = (entries.formulas from.position from.entry from.found).within in
          let low = under_below ms from.entry.formula n from.under in
          let w : n < length ns = omega (arith, top, low) in
          record { within = w; sort = ap sort_of (sym (item_kept ns ms grown n w)) ∙ number.sort }

  -- ---- representatives and values of such a branch

  module _ (b : Branch) (terms : HaveNumbersIn ns ms b) where
    pub same_names_before : (class : TermData → ℕ) (names : List ℕ) → AreNames ms b class names → AreNames ns b class names
    same_names_before class names h = record {
      named = λ n number stands. (
          let e = term_after n number in
          h.named n (number_after n number) (subst (IsTerm b) (sym e) stands) ∙ ap class e);
    }

    pub same_names_after : (class : TermData → ℕ) (names : List ℕ) → AreNames ns b class names → AreNames ms b class names
    same_names_after class names h = record {
      named = λ n number stands. (
          let k = terms.number n number stands in
          let e = term_after n k in
          h.named n k (subst (IsTerm b) e stands) ∙ ap class (sym e));
    }

    module _ (v : OpenValues) where
      pub same_rows_before : (rows : List Inequality) → HasRows ms b v rows → HasRows ns b v rows
      same_rows_before rows h = record { class = h.class; named = same_names_before h.class v.names.items h.named; are_rows = h.are_rows }

      pub same_rows_after : (rows : List Inequality) → HasRows ns b v rows → HasRows ms b v rows
      same_rows_after rows h = record { class = h.class; named = same_names_after h.class v.names.items h.named; are_rows = h.are_rows }

      pub same_met_before : IsMet ms b v → IsMet ns b v
      same_met_before h = record { rows = h.rows; has = same_rows_before h.rows h.has; solution = h.solution }

      pub same_met_after : IsMet ns b v → IsMet ms b v
      same_met_after h = record { rows = h.rows; has = same_rows_after h.rows h.has; solution = h.solution }

      pub same_valued_before : IsValued ms b v → IsValued ns b v
      same_valued_before h = record {
        class = h.class;
        named = (same_names_before h.class v.names.items (record { named = h.named })).named;
        rows = h.rows;
        are_rows = h.are_rows;
        solution = h.solution;
        whole = h.whole;
      }

      pub same_valued_after : IsValued ns b v → IsValued ms b v
      same_valued_after h = record {
        class = h.class;
        named = (same_names_after h.class v.names.items (record { named = h.named })).named;
        rows = h.rows;
        are_rows = h.are_rows;
        solution = h.solution;
        whole = h.whole;
      }

-- ---- a branch over the first pool

module _ (ns ms : List Node) (grown : Extends ns ms) (one : IsOneNumber ms) (d : BranchData) (over : IsOver ns d) where
  pub branch_after : branch_in ms d ≡ branch_in ns d
  branch_after = says_still ns ms grown d.entries over.formulas

  pub terms_stay : HaveNumbersIn ns ms (branch_in ns d)
  terms_stay = subst (HaveNumbersIn ns ms) branch_after (terms_of_entries ns ms grown one d (over_still ns ms grown d over) (record { formulas = over.formulas }))

  module _ (class : TermData → ℕ) (names : List ℕ) where
    pub names_before : AreNames ms (branch_in ms d) class names → AreNames ns (branch_in ns d) class names
    names_before h = same_names_before ns ms grown (branch_in ns d) terms_stay class names (subst (λ (b : Branch). AreNames ms b class names) branch_after h)

    pub names_after : AreNames ns (branch_in ns d) class names → AreNames ms (branch_in ms d) class names
    names_after h = subst (λ (b : Branch). AreNames ms b class names) (sym branch_after) (same_names_after ns ms grown (branch_in ns d) terms_stay class names h)

  module _ (v : OpenValues) where
    pub met_before : IsMet ms (branch_in ms d) v → IsMet ns (branch_in ns d) v
    met_before h = same_met_before ns ms grown (branch_in ns d) terms_stay v (subst (λ (b : Branch). IsMet ms b v) branch_after h)

    pub met_after : IsMet ns (branch_in ns d) v → IsMet ms (branch_in ms d) v
    met_after h = subst (λ (b : Branch). IsMet ms b v) (sym branch_after) (same_met_after ns ms grown (branch_in ns d) terms_stay v h)

    pub valued_before : IsValued ms (branch_in ms d) v → IsValued ns (branch_in ns d) v
    valued_before h = same_valued_before ns ms grown (branch_in ns d) terms_stay v (subst (λ (b : Branch). IsValued ms b v) branch_after h)

    pub valued_after : IsValued ns (branch_in ns d) v → IsValued ms (branch_in ms d) v
    valued_after h = subst (λ (b : Branch). IsValued ms b v) (sym branch_after) (same_valued_after ns ms grown (branch_in ns d) terms_stay v h)
