-- The value of a term and the truth of a formula, as in first-order logic: under an assignment of values to variables
-- and an interpretation. Source: H. B. Enderton, A Mathematical Introduction to Logic, section 2.2.
use Rattle.std.specs.Prelude.{ℕ, Bool, true, false, not, ◌&&◌, ◌||◌, ◌==◌, List, if◌then◌else◌}
use Rattle.base.specs.TypeData.{TypeData}
use Rattle.fol.specs.declared.shapes.Shape.{Shape}
use Rattle.fol.specs.FormulaData.{TermData, VarTerm, ConstantTerm, UnaryTerm, BinaryTerm, TernaryTerm, PackTerm, FieldTerm, SetFieldTerm, IfTerm, TermsData, NoTerms, MoreTerms, FormulaData, CompareFormula, IsFormula, HoldsFormula, NotFormula, JoinFormula, ConnectFormula, QuantifyFormula, FormulasData, NoFormulas, MoreFormulas}
use Rattle.fol.specs.Val.{Val, StructValue, Vals, NoValues, MoreValues}
use Rattle.fol.specs.Operators.{constant_value, unary_value, binary_value, ternary_value, field_value, set_field_value, compared, is_true}
use Rattle.fol.specs.declared.operators.Junction.TheVariants.{AllOf, AnyOf}
use Rattle.fol.specs.declared.operators.Connective.{Connective}
use Rattle.fol.specs.declared.operators.Connective.TheVariants.{Implies, Iff}
use Rattle.fol.specs.declared.operators.Quantifier.{Quantifier}
use Rattle.fol.specs.declared.operators.Quantifier.TheVariants.{ForAll, Exists}
use Rattle.fol.specs.TypedValue.{put_types, has_type}

-- An interpretation: a test of whether a property holds of all values, the shapes of structs, and the types that type
-- parameters name. The test is a part of the interpretation because no test of an infinite number of values is
-- computable. In classical logic there is exactly one such test.
pub record Interpretation : Type 0 where
  pub all : (Val → Bool) → Bool
  pub shapes : List Shape
  pub named : ℕ → TypeData

-- values of the variables, by number
abbrev pub Assignment : Type 0
Assignment = ℕ → Val

-- the assignment with this value for this variable
abbrev pub set_var : Assignment → ℕ → Val → Assignment
set_var s n v k = if k == n then v else s k

-- decides whether two truth values are equal
abbrev pub same_truth : Bool → Bool → Bool
same_truth true b = b
same_truth false b = not b

abbrev pub connected : Connective → Bool → Bool → Bool
connected Implies a b = not a || b
connected Iff a b = same_truth a b

-- for all values, or for some: not for all is it false
abbrev pub quantified : Quantifier → ((Val → Bool) → Bool) → (Val → Bool) → Bool
quantified ForAll all f = all f
quantified Exists all f = not (all (λ v. not (f v)))

abbrev mutual
  pub value_of : Interpretation → TermData → Assignment → Val
  value_of m (VarTerm n) s = s n
  value_of m (ConstantTerm c) s = constant_value c
  value_of m (UnaryTerm o t) s = unary_value o (value_of m t s)
  value_of m (BinaryTerm o t u) s = binary_value o (value_of m t s) (value_of m u s)
  value_of m (TernaryTerm o t u v) s = ternary_value o (value_of m t s) (value_of m u s) (value_of m v s)
  value_of m (PackTerm a ts) s = StructValue (put_types m.named a) (values_of_terms m ts s)
  value_of m (FieldTerm a k t) s = field_value (put_types m.named a) k (value_of m t s)
  value_of m (SetFieldTerm a k t u) s = set_field_value (put_types m.named a) k (value_of m t s) (value_of m u s)
  value_of m (IfTerm p t u) s = if truth_of m p s then value_of m t s else value_of m u s

  pub values_of_terms : Interpretation → TermsData → Assignment → Vals
  values_of_terms m NoTerms s = NoValues
  values_of_terms m (MoreTerms t ts) s = MoreValues (value_of m t s) (values_of_terms m ts s)

  pub truth_of : Interpretation → FormulaData → Assignment → Bool
  truth_of m (CompareFormula o t u) s = compared o (value_of m t s) (value_of m u s)
  truth_of m (IsFormula a t) s = has_type m.shapes (put_types m.named a) (value_of m t s)
  truth_of m (HoldsFormula t) s = is_true (value_of m t s)
  truth_of m (NotFormula p) s = not (truth_of m p s)
  truth_of m (JoinFormula AllOf ps) s = all_true m ps s
  truth_of m (JoinFormula AnyOf ps) s = any_true m ps s
  truth_of m (ConnectFormula o p q) s = connected o (truth_of m p s) (truth_of m q s)
  truth_of m (QuantifyFormula o n ts p) s = quantified o m.all (λ v. truth_of m p (set_var s n v))

  pub all_true : Interpretation → FormulasData → Assignment → Bool
  all_true m NoFormulas s = true
  all_true m (MoreFormulas p ps) s = truth_of m p s && all_true m ps s

  pub any_true : Interpretation → FormulasData → Assignment → Bool
  any_true m NoFormulas s = false
  any_true m (MoreFormulas p ps) s = truth_of m p s || any_true m ps s
