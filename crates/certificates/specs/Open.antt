-- The open branches while a certificate is checked.
use Rattle.std.specs.Prelude.{◌≡◌, ℕ, ◌<◌, false, if◌then◌else◌, List, [], ◌∷◌, ◌++◌, length, map, take}
use Rattle.fol.specs.FormulaData.{FormulaData}
use Rattle.certificates.specs.CertData.{MoveData}
use Rattle.certificates.specs.Closes.{OpenData, after}
use Rattle.certificates.specs.Branch.{entries_of, IsCounted}
use Rattle.certificates.specs.Waiting.{CaseData, cases_in, count_of, IsOrdered, AreStacked}
use Rattle.certificates.specs.declared.open.Open.{Open}

-- a case with the entries that it extends
abbrev pub branch_with : List FormulaData → CaseData → List FormulaData
branch_with b c = take c.mark b ++ c.formula ∷ []

abbrev pub branches_of : List FormulaData → List CaseData → OpenData
branches_of b cs = map (branch_with b) cs

abbrev pub worked_on : Open → List FormulaData
worked_on o = entries_of o.branch

abbrev pub others_of : Open → OpenData
others_of o = branches_of (worked_on o) (cases_in o.waiting)

-- there is a current branch
abbrev pub IsOn : Open → Type 0
IsOn o = o.is_none ≡ false

abbrev pub open_of : Open → OpenData
open_of o = if o.is_none then [] else worked_on o ∷ others_of o

-- the invariant when the current branch is closed or left
pub record IsHalted (o : Open) : Type 0 where
  pub on : IsOn o
  pub counted : IsCounted o.branch
  pub ordered : IsOrdered o.waiting
  pub begun : 0 < length (worked_on o)
  pub stacked : AreStacked (length (worked_on o)) (cases_in o.waiting)

-- the invariant at each move
pub record IsKept (o : Open) : Type 0 where
  pub counted : IsCounted o.branch
  pub ordered : IsOrdered o.waiting
  pub later : count_of o.waiting < length (worked_on o)
  pub stacked : AreStacked (length (worked_on o)) (cases_in o.waiting)

-- a move was made
pub record IsAfter (old : Open) (move : MoveData) (new : Open) : Type 0 where
  pub kept : IsKept new
  pub branches : open_of new ≡ after (open_of old) move
