-- Values of a branch, with their representatives and classes.
use Rattle.std.proofs.Common.{◌≡◌, ◌↔◌, ℕ, ◌≤◌, ◌<◌, Bool, false, IsTrue, List, length, sym, ◌∙◌, subst}
use Rattle.std.specs.Prelude.{slice_index, All}
use Rattle.fol.specs.FormulaData.{TermData}
use Rattle.linear_arith.specs.Inequality.{Inequality}
use Rattle.linear_arith.specs.Answer.{IsSolution}
use Rattle.term_pool.specs.Pools.{IsOneNumber}
use Rattle.term_pool.specs.declared.node.Node.{Node}
use Rattle.certificates.specs.BranchesBranch.{Branch}
use Rattle.certificates.specs.Rows.{IsWholeIfNumber}
use Rattle.tableau.specs.PoolBranches.{BranchData, branch_in, IsOver}
use Rattle.row_reasoning.specs.Rows.{AreNames, AreRowsOver, HasNoRows as HasNoRowsOver}
use Rattle.search.specs.Decisions.{IsValued}
use Rattle.search.specs.declared.values.OpenValues.{OpenValues}
use Rattle.step_checks.specs.Naming.{AreClassNames}
use Rattle.step_checks.specs.Checked.{AreOpenValues}
use Rattle.step_checks.specs.Rows.{HasRows, HasNoRows, AreValuedRows, IsMet}
use Rattle.step_checks.specs.declared.values.rows.ValuedRows.{ValuedRows}
use Rattle.step_checks.proofs.SameLemmas.{Agree, agreed, solved_so, whole_so, rows_so}

-- representatives of all numbers of a pool that agree with the given ones
pub filled_names : (ns : List Node) (b : Branch) (class : TermData → ℕ) (names made : List ℕ) → ((n : ℕ) → n < length ns → slice_index made n ≡ slice_index names n) → AreNames ns b class names → AreNames ns b class made
filled_names ns b class names made same h = record { named = λ n number stands. same n number.within ∙ h.named n number stands }

-- ---- the rows that the values must satisfy

pub no_names : (ns : List Node) (b : Branch) (v : OpenValues) (known : Bool) → known ≡ false → IsTrue known ↔ AreClassNames ns b v.names.items → HasNoRows ns b v
no_names ns b v known e h = record {
  none = λ rows has. (
      let t : IsTrue known = h.1 (record { class = has.class; classing = has.are_rows.classing; named = has.named }) in
      absurd (cc));
}

module _ (ns : List Node) (b : Branch) (v : OpenValues) where
  pub made_over_classes : (naming : AreClassNames ns b v.names.items) (made : ValuedRows) → length ns ≤ length made.names.items → AreNames ns b naming.class made.names.items → AreRowsOver b naming.class v.classes.items made.rows → AreValuedRows ns b v made
  made_over_classes naming made long named rows = record {
    class = naming.class;
    named = naming.named;
    long = long;
    all_named = named;
    keys = rows.keys;
    are_rows = rows.are_rows;
  }

  -- values without such rows

  pub not_met : HasNoRows ns b v → IsMet ns b v → ⊥
  not_met h met = h.none met.rows met.has

  abbrev rows_of_valued : (h : IsValued ns b v) → HasRows ns b v h.rows
  rows_of_valued h = record { class = h.class; named = record { named = h.named }; are_rows = h.are_rows }

  pub not_valued : HasNoRows ns b v → IsValued ns b v → ⊥
  not_valued h valued = h.none valued.rows (rows_of_valued valued)

module _ (ns : List Node) (one : IsOneNumber ns) (d : BranchData) (over : IsOver ns d) (v : OpenValues) where
  abbrev b : Branch
  b = branch_in ns d

  pub none_over_classes : (naming : AreClassNames ns b v.names.items) → HasNoRowsOver b naming.class v.classes.items → HasNoRows ns b v
  none_over_classes naming h = record {
    none = λ rows has. (
        let agree : Agree b naming.class has.class = agreed ns one d over naming.class has.class v.names.items naming.named has.named in
        h.none rows (rows_so b naming.class has.class agree v.classes.items rows naming.classing has.are_rows));
  }

  module _ (made : ValuedRows) (are : AreValuedRows ns b v made) where
    -- other rows over the same classes have the same solutions
    same_solution : (rows : List Inequality) → HasRows ns b v rows → IsSolution rows v.values → IsSolution made.rows.rows v.values
    same_solution rows has solution =
        let agree : Agree b are.class has.class = agreed ns one d over are.class has.class v.names.items are.named has.named in
        solved_so b are.class has.class agree v.classes.items made.rows.rows rows v.values are.are_rows has.are_rows solution

    pub met_exactly : (known : Bool) → IsTrue known ↔ IsSolution made.rows.rows v.values → IsTrue known ↔ IsMet ns b v
    met_exactly known h = (λ t. record { rows = made.rows.rows; has = record { class = are.class; named = are.named; are_rows = are.are_rows }; solution = h.0 t }, λ met. h.1 (same_solution met.rows met.has met.solution))

    open_valued : AreOpenValues b are.class made.rows v.values → IsValued ns b v
    open_valued h = record {
      class = are.class;
      named = are.named.named;
      rows = made.rows.rows;
      are_rows = are.are_rows;
      solution = h.solution;
      whole = subst (λ ks. All (IsWholeIfNumber b are.class ks) v.values) are.keys h.whole;
    }

    valued_open : IsValued ns b v → AreOpenValues b are.class made.rows v.values
    valued_open h =
        let has = rows_of_valued ns b v h in
        let agree : Agree b are.class h.class = agreed ns one d over are.class h.class v.names.items are.named has.named in
        record {
          solution = same_solution h.rows has h.solution;
          whole = subst (λ ks. All (IsWholeIfNumber b are.class ks) v.values) (sym are.keys) (whole_so b are.class h.class agree v.classes.items v.values h.whole);
        }

    pub valued_exactly : (known : Bool) → IsTrue known ↔ AreOpenValues b are.class made.rows v.values → IsTrue known ↔ IsValued ns b v
    valued_exactly known h = (λ t. open_valued (h.0 t), λ w. h.1 (valued_open w))
