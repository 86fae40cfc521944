-- Marks that advance, in an extended pool.
use Rattle.std.proofs.Common.{◌≡◌, ℕ, ◌<◌, ◌≤◌, List, length, map, sym, ap, ◌∙◌, subst, arith}
use Rattle.certificates.specs.Closes.{most_entries}
use Rattle.term_pool.specs.Pools.{Extends}
use Rattle.term_pool.specs.declared.node.Node.{Node}
use Rattle.tableau.specs.PoolBranches.{BranchData, branch_in, IsOver}
use Rattle.tableau.specs.Steps.{NoParts, NoPartsBefore, IsPartsStep}
use Rattle.tableau.specs.declared.rules.formulas.EntryStep.{EntryStep}
use Rattle.tableau.proofs.EntryLemmas.{says_within}
use Rattle.tableau.specs.Names.{NoName, NoNameBefore, IsNameStep}
use Rattle.tableau.specs.Variables.{AreAbove}
use Rattle.tableau.specs.declared.names.NameStep.{NameStep}
use Rattle.congruence_closure.specs.Known.{IsOver as ClassesOver, AreInEntries}
use Rattle.tableau.specs.Terms.{formula_number}
use Rattle.tableau.specs.States.{IsState, Follows, AreMarks, AreAllMarks, HaveNumbers, NoRangeSplitBefore}
use Rattle.tableau.specs.declared.state.marks.Marks.{Marks}
use Rattle.tableau.specs.declared.state.BranchState.{BranchState}
use Rattle.tableau.proofs.StateLemmas.{state_stays}
use Rattle.search.specs.Decisions.{HasRoom}
use Rattle.search.proofs.ApplicationLemmas.{fact_stays, length_in}
use Rattle.strategy.specs.Ranges.{NoRangeSplit, IsRangeSplitStep}

module _ (ns ms : List Node) (grown : Extends ns ms) (d : BranchData) (over : IsOver ns d) (m : Marks) (h : AreMarks (branch_in ns d) m) where
  in_more : AreMarks (branch_in ms d) m
  in_more = fact_stays ns ms grown (λ b. AreMarks b m) d over h

  parts_to : (k : ℕ) → k ≤ length d.entries → NoPartsBefore (branch_in ms d) k → AreMarks (branch_in ms d) (record { parts = k; names = m.names; ranges = m.ranges })
  parts_to k w none = record { parts_within = omega (arith, w, length_in ms d); names_within = in_more.names_within; ranges_within = in_more.ranges_within; parts = none; names = in_more.names; ranges = in_more.ranges }

  names_to : (k : ℕ) → k ≤ length d.entries → NoNameBefore (branch_in ms d) k → AreMarks (branch_in ms d) (record { parts = m.parts; names = k; ranges = m.ranges })
  names_to k w none = record { parts_within = in_more.parts_within; names_within = omega (arith, w, length_in ms d); ranges_within = in_more.ranges_within; parts = in_more.parts; names = none; ranges = in_more.ranges }

  ranges_to : (k : ℕ) → k ≤ length d.entries → NoRangeSplitBefore (branch_in ms d) k → AreMarks (branch_in ms d) (record { parts = m.parts; names = m.names; ranges = k })
  ranges_to k w none = record { parts_within = in_more.parts_within; names_within = in_more.names_within; ranges_within = omega (arith, w, length_in ms d); parts = in_more.parts; names = in_more.names; ranges = none }

  -- if none is due, the mark is past all entries; else it is at the first one

  pub parts_past : (k : ℕ) → k ≡ length d.entries → NoParts (branch_in ms d) → AreMarks (branch_in ms d) (record { parts = k; names = m.names; ranges = m.ranges })
  parts_past k e none = parts_to k (omega (arith, e)) (record { each = λ i w. none.each i })

  pub parts_first : (step : EntryStep) → IsPartsStep ms (branch_in ms d) step → AreMarks (branch_in ms d) (record { parts = step.entry; names = m.names; ranges = m.ranges })
  parts_first step s = parts_to step.entry (let w = says_within ms d step.entry s.parts.due.entry s.parts.due.says in omega (arith, w)) s.first

  pub names_past : (k : ℕ) → k ≡ length d.entries → NoName (branch_in ms d) → AreMarks (branch_in ms d) (record { parts = m.parts; names = k; ranges = m.ranges })
  names_past k e none = names_to k (omega (arith, e)) (record { each = λ i w. none.each i })

  pub names_first : (step : NameStep) → IsNameStep ms (branch_in ms d) step → AreMarks (branch_in ms d) (record { parts = m.parts; names = step.entry; ranges = m.ranges })
  names_first step s = names_to step.entry (let w = says_within ms d step.entry s.due.entry s.due.says in omega (arith, w)) s.first

  pub ranges_past : (k : ℕ) → k ≡ length d.entries → NoRangeSplit (branch_in ms d) → AreMarks (branch_in ms d) (record { parts = m.parts; names = m.names; ranges = k })
  ranges_past k e none = ranges_to k (omega (arith, e)) (record { each = λ i w. none.each i })

  pub ranges_first : (step : EntryStep) → IsRangeSplitStep ms (branch_in ms d) step → AreMarks (branch_in ms d) (record { parts = m.parts; names = m.names; ranges = step.entry })
  ranges_first step s = ranges_to step.entry (let w = says_within ms d step.entry s.split.formula s.split.says in omega (arith, w)) s.first

-- the delta rule is due at an entry of a branch that may have another one
pub named_early : (ns ms : List Node) → Extends ns ms → (d : BranchData) → IsOver ns d → HasRoom (branch_in ns d) → (step : NameStep) → IsNameStep ms (branch_in ms d) step → step.entry < most_entries
named_early ns ms grown d over room step s =
    let w = says_within ms d step.entry s.due.entry s.due.says in
    let few = room.entry in
    omega (arith, w, few, length_in ns d)

-- ---- variables

pub variables_followed : (ns : List Node) (d : BranchData) (s : BranchState) → IsState ns s → Follows d s → AreAbove ns d.entries s.variables
variables_followed ns d s h follows = subst (λ es. AreAbove ns es s.variables) follows.entries h.variables

-- the state with other variables
module _ (d : BranchData) (s t : BranchState) (entries : t.entries ≡ s.entries) where
  pub still_follows : Follows d s → Follows d t
  still_follows follows = record { entries = ap (λ x. x.items) entries ∙ follows.entries }

  pub state_varied : (ns ms : List Node) → Extends ns ms → t.classes ≡ s.classes → t.classed ≡ s.classed → t.marks ≡ s.marks → IsState ns s → Follows d s → AreAbove ms d.entries t.variables → IsState ms t
  state_varied ns ms grown classes classed marks old follows above =
      let h = state_stays ns ms grown s old in
      let es : t.entries.items ≡ s.entries.items = ap (λ x. x.items) entries in
      let same : t.marks.items ≡ s.marks.items = ap (λ x. x.items) marks in
      record {
        numbers = subst (HaveNumbers ms) (sym es) h.numbers;
        variables = subst (λ xs. AreAbove ms xs t.variables) (sym (es ∙ follows.entries)) above;
        classed_numbers = subst (λ v. HaveNumbers ms v.items) (sym classed) h.classed_numbers;
        classes = subst (ClassesOver ms) (sym classes) h.classes;
        inside = subst (AreInEntries ms) (sym classes) h.inside;
        classed = ap (λ x. x.entries) classes ∙ h.classed ∙ ap (λ v. map formula_number v.items) (sym classed);
        marks = subst (λ xs. AreAllMarks ms xs t.marks.items) (sym es) (subst (AreAllMarks ms s.entries.items) (sym same) h.marks);
      }
