-- The pending cases while a branch is processed: the remaining cases of forks, each with the number of entries of the
-- branch that it extends.
use Rattle.std.specs.Prelude.{◌≡◌, ℕ, ◌<◌, ◌≤◌, List, [], ◌∷◌, length, map, take, reverse, slice_get, Some}
use Rattle.std.specs.List.{flat_map}
use Rattle.fol.specs.FormulaData.{FormulaData}
use Rattle.certificates.specs.Closes.{most_entries}
use Rattle.certificates.specs.declared.waiting.Fork.{Fork}
use Rattle.certificates.specs.declared.waiting.Case.{Case}
use Rattle.certificates.specs.declared.waiting.Waiting.{Waiting}

pub record CaseData : Type 0 where
  pub mark : ℕ
  pub formula : FormulaData

abbrev pub case_at : ℕ → FormulaData → CaseData
case_at mark p = record { mark = mark; formula = p }

abbrev pub case_of : Case → CaseData
case_of c = case_at c.mark c.formula.now

-- the cases of a fork
abbrev pub fork_cases : Fork → List CaseData
fork_cases f = map (case_at f.mark) f.cases.now

-- the forks, the innermost first
abbrev pub forks_in : Waiting → List Fork
forks_in w = reverse (take w.count w.positions)

-- the cases, the next one first
abbrev pub cases_in : Waiting → List CaseData
cases_in w = flat_map fork_cases (forks_in w)

abbrev pub count_of : Waiting → ℕ
count_of w = w.count

-- the fork with a number is on a branch that has more entries than that, and room for one more
pub record IsPlaced (i : ℕ) (f : Fork) : Type 0 where
  pub later : i < f.mark
  pub room : f.mark < most_entries

-- the forks are within the array, and each is placed
pub record IsOrdered (w : Waiting) : Type 0 where
  pub positions : length w.positions ≡ most_entries
  pub within : w.count ≤ most_entries
  pub placed : (i : ℕ) (f : Fork) → i < w.count → slice_get w.positions i ≡ Some f → IsPlaced i f

-- each case extends some of the first entries of the current branch, and no more than the one before it
abbrev pub AreStacked : ℕ → List CaseData → Type 0
AreStacked n [] = Unit {0}
AreStacked n (c ∷ cs) = (c.mark ≤ n) × AreStacked c.mark cs
