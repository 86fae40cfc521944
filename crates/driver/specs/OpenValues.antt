-- The values of a function's parameters on an open branch: those of the classes of its variables.
use Rattle.std.specs.Prelude.{◌≡◌, ◌==◌, ℕ, ℤ, pos, ◌*ℤ◌, Bool, false, List, position, slice_get, slice_index, Option, Some, None, option_and_then}
use Rattle.linear_arith.specs.declared.rows.Fraction.{Fraction}
use Rattle.linear_arith.specs.Substitution.{ArePositive}
use Rattle.certificates.specs.Rows.{IsWholeValue}
use Rattle.term_pool.specs.Pools.{IsMade, IsNowhere}
use Rattle.term_pool.specs.declared.node.Leaf.TheVariants.{Var}
use Rattle.term_pool.specs.declared.node.Node.{Node}
use Rattle.term_pool.specs.declared.node.Node.TheVariants.{Leaf as LeafNode}
use Rattle.search.specs.declared.values.OpenValues.{OpenValues}
use Rattle.base.specs.Names.{same_name}
use Rattle.base.specs.Pairs.{Paired}
use Rattle.report.specs.ReportData.{ParameterValueData}

abbrev pub is_name : Option ℕ → ℕ → Bool
is_name None name = false
is_name (Some n) name = n == name

-- decides whether the fraction is the value of the class with this representative
abbrev pub is_of : OpenValues → ℕ → Fraction → Bool
is_of v name f = is_name (slice_get v.classes.items f.unknown) name

-- the value of the class
abbrev pub fraction_of : OpenValues → ℕ → Option Fraction
fraction_of v name = option_and_then (slice_get v.values) (position (is_of v name) v.values)

-- the fraction is the whole number; without a fraction, the number is 0
abbrev pub IsNumber : Option Fraction → ℤ → Type 0
IsNumber None z = z ≡ pos 0
IsNumber (Some f) z = f.numerator ≡ z *ℤ f.denominator

-- the value of the variable: that of its class, and 0 if the class has none
pub data IsValueOf (ns : List Node) (v : OpenValues) (k : ℕ) (z : ℤ) : Type 0 where
  OfClass : (n : ℕ) → IsMade ns n (LeafNode (Var k)) → IsNumber (fraction_of v (slice_index v.names.items n)) z → IsValueOf ns v k z
  OfNone : IsNowhere ns (LeafNode (Var k)) → z ≡ pos 0 → IsValueOf ns v k z

abbrev pub IsValueAt : List Node → OpenValues → Option ℕ → ℤ → Type 0
IsValueAt ns v None z = z ≡ pos 0
IsValueAt ns v (Some k) z = IsValueOf ns v k z

-- ---- values that are whole

-- the double negation of A
abbrev pub Likely : Type 0 → Type 0
Likely A = (A → ⊥) → ⊥

-- the value of the variable is a whole number, up to a double negation
pub record IsWholeAt (ns : List Node) (v : OpenValues) (k : ℕ) : Type 0 where
  pub positive : ArePositive v.values
  pub whole : (n : ℕ) (f : Fraction) → IsMade ns n (LeafNode (Var k)) → fraction_of v (slice_index v.names.items n) ≡ Some f → Likely (IsWholeValue f)

pub record AreWholeAt (ns : List Node) (v : OpenValues) (parameters : List (List ℕ)) : Type 0 where
  pub each : (name : List ℕ) (k : ℕ) → position (same_name name) parameters ≡ Some k → IsWholeAt ns v k

-- ---- parameters

-- the value of the parameter with this name: the parameters are variables by their indexes
pub record IsParameterValue (ns : List Node) (v : OpenValues) (parameters : List (List ℕ)) (name : List ℕ) (value : ParameterValueData) : Type 0 where
  pub name_is : value.name ≡ name
  pub number : IsValueAt ns v (position (same_name name) parameters) value.number

-- the values of the parameters, in order
abbrev pub AreValuesOf : List Node → OpenValues → List (List ℕ) → List ParameterValueData → Type 0
AreValuesOf ns v parameters values = Paired (IsParameterValue ns v parameters) parameters values
