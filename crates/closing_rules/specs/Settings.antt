-- A branch whose rows have no solution, with one term for each class of their unknowns.
use Rattle.std.specs.Prelude.{◌≡◌, ℕ, ◌≤◌, ℤ, List, slice_get, Option, Some}
use Rattle.std.specs.List.{AllZip}
use Rattle.fol.specs.FormulaData.{TermData}
use Rattle.linear_arith.specs.Combination.{IsContradiction}
use Rattle.term_pool.specs.declared.node.Node.{Node}
use Rattle.congruence_closure.specs.States.{AreClasses}
use Rattle.certificates.specs.BranchesBranch.{formulas}
use Rattle.certificates.specs.Names.{above_all}
use Rattle.tableau.specs.PoolBranches.{BranchData, branch_in, IsOver}
use Rattle.tableau.specs.declared.entry.PoolEntry.{PoolEntry}
use Rattle.row_reasoning.specs.Rows.{IsRowFrom}
use Rattle.row_reasoning.specs.declared.rows.BranchRows.{BranchRows}
use Rattle.congruence_closure.specs.Known.{BranchClassesData, AreInEntries}
use Rattle.tableau.specs.Terms.{AreClassesOf}
use Rattle.explanations.specs.BranchGraphs.{AreLow}
use Rattle.row_reasoning.specs.Chosen.{AreChosen}
use Rattle.row_reasoning.specs.StandIns.{AreOverClasses}
use Rattle.closing_rules.specs.Rewritings.{HaveEntryStandIns}

-- the classes are those of the branch's entries and of nothing else, and the entries are not too deep
pub record IsBase (ns : List Node) (d : BranchData) (c : BranchClassesData) : Type 0 where
  pub over : IsOver ns d
  pub classes : AreClassesOf ns d c
  pub shown : AreClasses c.classes.nodes c.classes.equations c.classes.names c.classes.links
  pub inside : AreInEntries ns c
  pub low : AreLow ns c.entries

-- multipliers combine the rows to a contradiction; for each class of their unknowns one term is chosen, which replaces
-- the others; all variables are below v
pub record IsSetting (ns : List Node) (d : BranchData) (c : BranchClassesData) (names : List ℕ) (find : ℕ → Option ℕ) (rows : BranchRows) (ms : List ℤ) (v : ℕ) : Type 0 where
  pub base : IsBase ns d c
  pub stand_ins : HaveEntryStandIns ns d c names find
  pub above : above_all (formulas (branch_in ns d)) ≤ v
  pub class : TermData → ℕ
  pub chosen : ℕ → TermData
  pub are_chosen : AreChosen class rows.classes.keys chosen
  pub origins : AllZip (IsRowFrom class (formulas (branch_in ns d)) rows.classes.keys) rows.rows rows.origins.items
  pub over_classes : (i : ℕ) (e : PoolEntry) → slice_get d.entries i ≡ Some e → AreOverClasses ns c names find e.formula class chosen
  pub contradiction : IsContradiction rows.rows ms
