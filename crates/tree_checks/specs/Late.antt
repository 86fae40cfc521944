-- Branches on which nothing that comes first is due, and late ones with given values.
use Rattle.std.specs.Prelude.{ℕ, List}
use Rattle.fol.specs.declared.shapes.Shape.{Shape}
use Rattle.fol.specs.FormulaData.{FormulaData}
use Rattle.term_pool.specs.declared.node.Node.{Node}
use Rattle.certificates.specs.BranchesBranch.{Branch, Says}
use Rattle.certificates.specs.Due.{IsNotClosed, IsRange}
use Rattle.certificates.specs.ProofTraces.{NothingEarly}
use Rattle.tableau.specs.Steps.{NoParts}
use Rattle.tableau.specs.Names.{NoName}
use Rattle.axiom_strategy.specs.Due.{NothingOfRanges}
use Rattle.strategy.specs.Ranges.{NoRangeSplit}
use Rattle.search.specs.declared.values.OpenValues.{OpenValues}
use Rattle.step_checks.specs.Rows.{IsMet}

-- no alpha or delta rule is due at any entry
pub record HasNoEntryApplication (b : Branch) : Type 0 where
  pub no_parts : NoParts b
  pub no_name : NoName b

-- no instance of a range axiom is due, and no case split of such an instance
pub record HasNoRangeApplication (shapes : List Shape) (b : Branch) : Type 0 where
  pub no_axiom : NothingOfRanges shapes b
  pub no_split : NoRangeSplit b

-- these values show that a late application may come on the branch: they satisfy its rows over their classes, with
-- their representatives
pub record IsLateBy (shapes : List Shape) (ns : List Node) (b : Branch) (v : OpenValues) : Type 0 where
  pub nothing_early : NothingEarly shapes b
  pub not_closed : IsNotClosed b
  pub met : IsMet ns b v

-- the entry is an instance of the axiom on ranges
pub record IsRangeEntry (b : Branch) (i : ℕ) : Type 0 where
  pub formula : FormulaData
  pub says : Says b i formula
  pub is_range : IsRange formula
