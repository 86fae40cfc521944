-- A branch on the stack as the list of its entries.
use Rattle.std.specs.Prelude.{◌≡◌, ℕ, ◌≤◌, List, length, map, take}
use Rattle.fol.specs.FormulaData.{FormulaData, NotFormula}
use Rattle.certificates.specs.Closes.{most_entries}
use Rattle.certificates.specs.declared.branch.Branch.{Branch}
use Rattle.certificates.specs.declared.branch.Entry.{Entry}
use Rattle.certificates.specs.declared.branch.Entry.TheVariants.{Negated, Plain}

abbrev pub entry_formula : Entry → FormulaData
entry_formula (Negated p) = NotFormula p.now
entry_formula (Plain p) = p.now

abbrev pub entries_of : Branch → List FormulaData
entries_of b = map entry_formula (take b.count b.positions)

-- the entries are within the array
pub record IsCounted (b : Branch) : Type 0 where
  pub positions : length b.positions ≡ most_entries
  pub within : b.count ≤ most_entries
