-- The first value that lies between a number and the next one, of a class or of any.
use Rattle.std.specs.Prelude.{◌≡◌, ℕ, ◌<◌, ℤ, List, take, slice_get, slice_index, Option, Some, None, All}
use Rattle.fol.specs.FormulaData.{TermData}
use Rattle.linear_arith.specs.Inequality.{Inequality}
use Rattle.linear_arith.specs.declared.rows.Fraction.{Fraction}
use Rattle.linear_arith.specs.Answer.{IsSolution}
use Rattle.step_checks.specs.GivenValues.{AreGivenValues}
use Rattle.step_checks.specs.declared.elimination.GivenElimination.{GivenElimination}
use Rattle.term_pool.specs.declared.node.Node.{Node}
use Rattle.certificates.specs.BranchesBranch.{Branch, IsTerm}
use Rattle.certificates.specs.Rows.{AreBranchRows, IsWholeIfNumber}
use Rattle.certificates.specs.ProofTraces.{IsBetween}
use Rattle.row_reasoning.specs.Rows.{AreNames}
use Rattle.search.specs.declared.values.OpenValues.{OpenValues}
use Rattle.tree_checks.specs.Bounds.{IsFirstBetween}

-- ---- one value

-- the unknown is one of some class
pub record HasClass (classes : List ℕ) (unknown : ℕ) : Type 0 where
  pub name : ℕ
  pub is : slice_get classes unknown ≡ Some name

-- the unknown is that of the class with the representative, or of any class if there is no representative
abbrev pub IsOfName : List ℕ → Option ℕ → ℕ → Type 0
IsOfName classes None unknown = HasClass classes unknown
IsOfName classes (Some name) unknown = slice_get classes unknown ≡ Some name

-- the value is that of such an unknown, and lies between k and k + 1
pub record IsTriggered (classes : List ℕ) (name : Option ℕ) (k : ℤ) (value : Fraction) : Type 0 where
  pub of_name : IsOfName classes name value.unknown
  pub between : IsBetween k value

-- the representative of the class of a term of the branch, by the number of the term
pub record IsNameOf (b : Branch) (t : TermData) (names : List ℕ) (number name : ℕ) : Type 0 where
  pub stands : IsTerm b t
  pub is : name ≡ slice_index names number

-- ---- values in order

-- the first value with the property is at this index
pub record IsFirstWith (P : Fraction → Type 0) (values : List Fraction) (position : ℕ) : Type 0 where
  pub value : Fraction
  pub found : slice_get values position ≡ Some value
  pub holds : P value
  pub none_before : (k : ℕ) (v : Fraction) → k < position → slice_get values k ≡ Some v → P v → ⊥

pub record HasNoneWith (P : Fraction → Type 0) (values : List Fraction) : Type 0 where
  pub none : (k : ℕ) (v : Fraction) → slice_get values k ≡ Some v → P v → ⊥

-- a value that requires a bound, after others that are whole if their classes have numbers
pub record IsFirstNamed (b : Branch) (class : TermData → ℕ) (classes : List ℕ) (name : Option ℕ) (k : ℤ) (values : List Fraction) : Type 0 where
  pub position : ℕ
  pub value : Fraction
  pub found : slice_get values position ≡ Some value
  pub triggered : IsTriggered classes name k value
  pub whole_before : All (IsWholeIfNumber b class classes) (take position values)

-- ---- what the grounds of a bound show, apart from what else is due

-- the values that the elimination gives for the branch's rows, over their classes and with their representatives,
-- require the bound
pub record AskForBound (ns : List Node) (b : Branch) (t : TermData) (k : ℤ) (v : OpenValues) (given : GivenElimination) : Type 0 where
  pub class : TermData → ℕ
  pub named : AreNames ns b class v.names.items
  pub rows : List Inequality
  pub are_rows : AreBranchRows b class v.classes.items rows
  pub chosen : AreGivenValues rows given v.values
  pub solution : IsSolution rows v.values
  pub first : IsFirstBetween b class v.classes.items t k v.values
