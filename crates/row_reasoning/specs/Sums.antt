-- Terms as sums: a constant part, and a coefficient for each class of unknowns.
use Rattle.std.specs.Prelude.{◌≡◌, ◌⊎◌, ℕ, ℤ, pos, negsuc, ◌+ℤ◌, ◌-ℤ◌, ◌*ℤ◌, Bool, true, false, cond, nat_eq, List, [], ◌∷◌, slice_get, Option, Some, None}
use Rattle.fol.specs.FormulaData.{TermData, VarTerm}
use Rattle.certificates.specs.Linear.{kept, kept_of, Part, weight}
use Rattle.certificates.specs.Unknowns.{EachUnknown}
use Rattle.certificates.specs.Rows.{IsKnown}
use Rattle.row_reasoning.specs.declared.sum.LinearSum.{LinearSum}

-- ---- coefficients

-- the coefficient of a class; 0 if it is missing
abbrev pub coefficient_in : List (ℕ × ℤ) → ℕ → ℤ
coefficient_in [] n = pos 0
coefficient_in (e ∷ es) n = cond (nat_eq n e.0) e.1 (coefficient_in es n)

-- the class has a coefficient, possibly 0
abbrev pub Has : List (ℕ × ℤ) → ℕ → Type 0
Has [] n = ⊥
Has (e ∷ es) n = (n ≡ e.0) ⊎ Has es n

-- the class is in the list
pub record IsAmong (ks : List ℕ) (n : ℕ) : Type 0 where
  pub position : ℕ
  pub found : slice_get ks position ≡ Some n

-- ---- sums

-- a number of the sum before the sign: its constant part, or the coefficient of an unknown
abbrev pub unsigned : LinearSum → Part → ℤ
unsigned s None = s.constant
unsigned s (Some (VarTerm n)) = coefficient_in s.coefficients.entries n
unsigned s (Some unknown) = pos 0

abbrev pub signed : Bool → ℤ → ℤ
signed false z = z
signed true z = pos 0 -ℤ z

-- a number of the sum
abbrev pub amount : LinearSum → Part → ℤ
amount s part = signed s.is_negated (unsigned s part)

-- all numbers of the sum fit in 128 bits
pub record IsKept (s : LinearSum) : Type 0 where
  pub fits : (part : Part) → kept (unsigned s part) ≡ Some (unsigned s part)

-- the variable of a class of the sum
abbrev pub IsUnknownOf : LinearSum → TermData → Type 0
IsUnknownOf s u = (n : ℕ) × (u ≡ VarTerm n) × Has s.coefficients.entries n

-- the sum is that of the term, and its classes are those of the term's unknowns: a list with these contains each of
-- them
pub record IsSumOf (t : TermData) (s : LinearSum) : Type 0 where
  pub weights : (part : Part) → weight part t ≡ Some (amount s part)
  pub unknowns : EachUnknown (IsUnknownOf s) t
  pub spoken : (n : ℕ) → Has s.coefficients.entries n → (ks : List ℕ) → EachUnknown (IsKnown ks) t → IsAmong ks n

-- a number of the term as a sum, or an intermediate one, overflows 128 bits
pub record Leaves (t : TermData) : Type 0 where
  pub part : Part
  pub leaves : weight part t ≡ None

-- ---- sums of two

-- the total plus a multiple, if both numbers fit
abbrev pub plus_multiple_of : ℤ → ℤ → ℤ → Option ℤ
plus_multiple_of total factor number = kept_of ◌+ℤ◌ (Some total) (kept (factor *ℤ number))

-- a multiple of the second coefficients is added to the first
pub record IsAdded (factor : ℤ) (es fs gs : List (ℕ × ℤ)) : Type 0 where
  pub sums : (n : ℕ) → Has fs n → plus_multiple_of (coefficient_in es n) factor (coefficient_in fs n) ≡ Some (coefficient_in gs n)
  pub others : (n : ℕ) → (Has fs n → ⊥) → coefficient_in gs n ≡ coefficient_in es n
  pub left : (n : ℕ) → Has es n → Has gs n
  pub right : (n : ℕ) → Has fs n → Has gs n
  pub from : (n : ℕ) → Has gs n → Has es n ⊎ Has fs n

pub record LeavesAdded (factor : ℤ) (es fs : List (ℕ × ℤ)) : Type 0 where
  pub class : ℕ
  pub has : Has fs class
  pub leaves : plus_multiple_of (coefficient_in es class) factor (coefficient_in fs class) ≡ None

abbrev pub AddsUp : ℤ → List (ℕ × ℤ) → List (ℕ × ℤ) → List (ℕ × ℤ) → Bool → Type 0
AddsUp factor es fs gs true = IsAdded factor es fs gs
AddsUp factor es fs gs false = LeavesAdded factor es fs

-- the classes of the first sum are classes of the second
pub record HasClassesOf (x r : LinearSum) : Type 0 where
  pub has : (n : ℕ) → Has x.coefficients.entries n → Has r.coefficients.entries n

-- each class of the sum is one of these two
pub record HasClassesFrom (x y r : LinearSum) : Type 0 where
  pub either : (n : ℕ) → Has r.coefficients.entries n → Has x.coefficients.entries n ⊎ Has y.coefficients.entries n

-- the first sum plus a multiple of the second, before its sign
pub record IsPlusMultiple (x : LinearSum) (factor : ℤ) (y r : LinearSum) : Type 0 where
  pub sign : r.is_negated ≡ x.is_negated
  pub numbers : (part : Part) → plus_multiple_of (unsigned x part) factor (unsigned y part) ≡ Some (unsigned r part)
  pub left : HasClassesOf x r
  pub right : HasClassesOf y r
  pub from : HasClassesFrom x y r

pub record LeavesPlusMultiple (x : LinearSum) (factor : ℤ) (y : LinearSum) : Type 0 where
  pub part : Part
  pub leaves : plus_multiple_of (unsigned x part) factor (unsigned y part) ≡ None

-- the sum or the difference
abbrev pub joining : Bool → ℤ → ℤ → ℤ
joining false x y = x +ℤ y
joining true x y = x -ℤ y

-- the factor by which the second number, before its sign, is added to the first
abbrev pub turn_of : Bool → Bool → Bool → ℤ
turn_of false false false = pos 1
turn_of false false true = negsuc 0
turn_of false true false = negsuc 0
turn_of false true true = pos 1
turn_of true false false = negsuc 0
turn_of true false true = pos 1
turn_of true true false = pos 1
turn_of true true true = negsuc 0

-- the sign, flipped if the sum is subtracted
abbrev pub turned : Bool → Bool → Bool
turned false d = d
turned true false = true
turned true true = false

-- the sum or the difference of two sums
pub record IsJoined (is_difference : Bool) (x y r : LinearSum) : Type 0 where
  pub numbers : (part : Part) → kept (joining is_difference (amount x part) (amount y part)) ≡ Some (amount r part)
  pub left : HasClassesOf x r
  pub right : HasClassesOf y r
  pub from : HasClassesFrom x y r

pub record LeavesJoined (is_difference : Bool) (x y : LinearSum) : Type 0 where
  pub part : Part
  pub leaves : kept (joining is_difference (amount x part) (amount y part)) ≡ None

-- a multiple of a sum
pub record IsMultiple (factor : ℤ) (x r : LinearSum) : Type 0 where
  pub numbers : (part : Part) → kept (factor *ℤ amount x part) ≡ Some (amount r part)
  pub classes : HasClassesOf x r
  pub from : HasClassesOf r x

pub record LeavesMultiple (factor : ℤ) (x : LinearSum) : Type 0 where
  pub part : Part
  pub leaves : kept (factor *ℤ amount x part) ≡ None
