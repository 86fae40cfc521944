-- The rows (linear constraints) of a branch: its comparisons as inequalities over whole numbers, with one unknown for
-- each congruence class. An inequality gives one row and an equation two, in the order of the entries. A comparison
-- with a number that overflows 128 bits gives none, since no linear step reads it.
use Rattle.std.specs.Prelude.{◌≡◌, ◌≢◌, ℕ, ◌≤◌, ℤ, pos, ◌-ℤ◌, ◌*ℤ◌, Bool, true, false, List, [], ◌∷◌, length, slice_get, Option, Some, None, All}
use Rattle.std.specs.List.{AllPairs, AllZip}
use Rattle.base.specs.TypeData.{NumType}
use Rattle.fol.specs.declared.operators.Binary.TheVariants.{Add, Mul, Sub}
use Rattle.fol.specs.declared.operators.Constant.TheVariants.{Num}
use Rattle.fol.specs.FormulaData.{TermData, VarTerm, NumTerm, ConstantTerm, BinaryTerm, AddTerm, SubTerm, MulTerm, FormulaData, CompareFormula, IsFormula, NotFormula}
use Rattle.certificates.specs.Linear.{numeral_of, Row, row_of, row_weight}
use Rattle.certificates.specs.Unknowns.{EachUnknown}
use Rattle.linear_arith.specs.Inequality.{Inequality, coefficient}
use Rattle.linear_arith.specs.declared.rows.Fraction.{Fraction}
use Rattle.linear_arith.specs.Answer.{IsSolution}
use Rattle.certificates.specs.BranchesBranch.{Branch, formulas, Stands, IsTerm}
use Rattle.certificates.specs.Joined.{Joined}

-- a number for each class of terms of the branch
pub record IsClassing (b : Branch) (class : TermData → ℕ) : Type 0 where
  pub same : (t u : TermData) → IsTerm b t → IsTerm b u → Joined b t u → class t ≡ class u
  pub apart : (t u : TermData) → IsTerm b t → IsTerm b u → class t ≡ class u → Joined b t u

-- ---- comparisons over classes

-- a product with a numeral remains one; any other is an unknown
abbrev pub product_over : Option ℤ → Option ℤ → TermData → TermData → TermData
product_over (Some c) right over whole = over
product_over None (Some c) over whole = over
product_over None None over whole = whole

-- the term as a sum, with the variable of its class for each unknown
abbrev pub over : (TermData → ℕ) → TermData → TermData
over class (ConstantTerm (Num i)) = NumTerm i
over class (BinaryTerm Add t u) = AddTerm (over class t) (over class u)
over class (BinaryTerm Sub t u) = SubTerm (over class t) (over class u)
over class (BinaryTerm Mul t u) =
    product_over (numeral_of t) (numeral_of u) (MulTerm (over class t) (over class u)) (VarTerm (class (MulTerm t u)))
over class t = VarTerm (class t)

-- a comparison, or the denial of one, with its sides mapped in this way
abbrev pub comparison_with : (TermData → TermData) → FormulaData → FormulaData
comparison_with side (CompareFormula o t u) = CompareFormula o (side t) (side u)
comparison_with side (NotFormula (CompareFormula o t u)) = NotFormula (CompareFormula o (side t) (side u))
comparison_with side p = p

-- no number of the row overflows 128 bits
pub record FitsRow (p : FormulaData) : Type 0 where
  pub fits : (part : Option TermData) → row_weight part (row_of p) ≢ None

-- the row of an entry over classes, if it has one
pub data IsEntryRow (class : TermData → ℕ) (p : FormulaData) (row : Option Row) : Type 0 where
  Fits : FitsRow (comparison_with (over class) p) → row_of (comparison_with (over class) p) ≡ row → IsEntryRow class p row
  Leaves : (FitsRow (comparison_with (over class) p) → ⊥) → row ≡ None → IsEntryRow class p row

-- ---- rows

-- the term is the variable of one of these classes
abbrev pub IsKnown : List ℕ → TermData → Type 0
IsKnown classes t = (k : ℕ) × (n : ℕ) × (slice_get classes k ≡ Some n) × (t ≡ VarTerm n)

-- the inequality has the numbers of the row: its coefficients by the indices of the classes, and the negation of its
-- constant part as the bound
pub record IsRowOf (classes : List ℕ) (row : Row) (inequality : Inequality) : Type 0 where
  pub lesser : EachUnknown (IsKnown classes) row.lesser
  pub greater : EachUnknown (IsKnown classes) row.greater
  pub few : length inequality.coefficients ≤ length classes
  pub coefficients : (k n : ℕ) → slice_get classes k ≡ Some n → row_weight (Some (VarTerm n)) (Some row) ≡ Some (coefficient k inequality)
  pub bound : row_weight None (Some row) ≡ Some (pos 0 -ℤ inequality.bound)

-- the row with its sides swapped: an equation is two inequalities
abbrev pub turned : Row → Row
turned row = record { lesser = row.greater; greater = row.lesser; gap = row.gap; is_equation = row.is_equation }

-- the rows begin with those of an entry, and the rest has the property
abbrev pub BeginsWith : List ℕ → Row → Bool → List Inequality → (List Inequality → Type 0) → Type 0
BeginsWith classes row false (r ∷ rest) Rest = IsRowOf classes row r × Rest rest
BeginsWith classes row true (r ∷ s ∷ rest) Rest = IsRowOf classes row r × IsRowOf classes (turned row) s × Rest rest
BeginsWith classes row _ _ Rest = ⊥

abbrev pub BeginsWithEntry : List ℕ → Option Row → List Inequality → (List Inequality → Type 0) → Type 0
BeginsWithEntry classes None rows Rest = Rest rows
BeginsWithEntry classes (Some row) rows Rest = BeginsWith classes row row.is_equation rows Rest

-- the inequalities are those of the rows of all entries, in their order
abbrev pub AreRowsOf : List ℕ → List (Option Row) → List Inequality → Type 0
AreRowsOf classes [] rows = rows ≡ []
AreRowsOf classes (row ∷ more) rows = BeginsWithEntry classes row rows (AreRowsOf classes more)

-- the rows of the branch, over the classes of its unknowns
pub record AreBranchRows (b : Branch) (class : TermData → ℕ) (classes : List ℕ) (rows : List Inequality) : Type 0 where
  pub classing : IsClassing b class
  pub stated : List (Option Row)
  pub are_stated : AllZip (IsEntryRow class) (formulas b) stated
  pub different : AllPairs (λ m n. m ≢ n) classes
  pub are_rows : AreRowsOf classes stated rows

-- ---- values

-- an entry states that some term of the class is a whole number
pub record IsNumberClass (b : Branch) (class : TermData → ℕ) (n : ℕ) : Type 0 where
  pub term : TermData
  pub of_class : class term ≡ n
  pub stands : Stands b (IsFormula NumType term)

-- the value is a whole number
pub record IsWholeValue (v : Fraction) : Type 0 where
  pub number : ℤ
  pub is : v.numerator ≡ number *ℤ v.denominator

-- if the class has a number, its value is whole
pub record IsWholeIfNumber (b : Branch) (class : TermData → ℕ) (classes : List ℕ) (v : Fraction) : Type 0 where
  pub whole : (n : ℕ) → slice_get classes v.unknown ≡ Some n → IsNumberClass b class n → IsWholeValue v

-- values that meet the rows of the branch
pub record Meets (b : Branch) (values : List Fraction) : Type 0 where
  pub class : TermData → ℕ
  pub classes : List ℕ
  pub rows : List Inequality
  pub are_rows : AreBranchRows b class classes rows
  pub solution : IsSolution rows values

-- the values also are whole for the classes that have numbers
pub record MeetsWhole (b : Branch) (values : List Fraction) : Type 0 where
  pub class : TermData → ℕ
  pub classes : List ℕ
  pub rows : List Inequality
  pub are_rows : AreBranchRows b class classes rows
  pub solution : IsSolution rows values
  pub whole : All (IsWholeIfNumber b class classes) values
