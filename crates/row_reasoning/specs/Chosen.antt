-- One term for each class of unknowns.
use Rattle.std.specs.Prelude.{◌≡◌, ℕ, List, slice_get, Some, None}
use Rattle.fol.specs.declared.operators.Binary.TheVariants.{Add, Mul, Sub}
use Rattle.fol.specs.declared.operators.Constant.TheVariants.{Num}
use Rattle.fol.specs.FormulaData.{TermData, VarTerm, ConstantTerm, BinaryTerm}
use Rattle.certificates.specs.Linear.{numeral_of}

-- as a sum the term is one unknown: it is no numeral, no sum, no difference and no product with a numeral
abbrev pub IsNoSum : TermData → Type 0
IsNoSum (ConstantTerm (Num i)) = ⊥
IsNoSum (BinaryTerm Add t u) = ⊥
IsNoSum (BinaryTerm Sub t u) = ⊥
IsNoSum (BinaryTerm Mul t u) = (numeral_of t ≡ None) × (numeral_of u ≡ None)
IsNoSum t = Unit {0}

-- the chosen term of each of these classes belongs to the class and is no sum
pub record AreChosen (class : TermData → ℕ) (classes : List ℕ) (chosen : ℕ → TermData) : Type 0 where
  pub of_class : (k n : ℕ) → slice_get classes k ≡ Some n → class (chosen n) ≡ n
  pub no_sum : (k n : ℕ) → slice_get classes k ≡ Some n → IsNoSum (chosen n)

-- a sum over classes, with the chosen term for each class
abbrev pub with_chosen : (ℕ → TermData) → TermData → TermData
with_chosen chosen (VarTerm n) = chosen n
with_chosen chosen (BinaryTerm o t u) = BinaryTerm o (with_chosen chosen t) (with_chosen chosen u)
with_chosen chosen t = t
