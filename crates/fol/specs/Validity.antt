-- Validity: truth under every interpretation and every assignment. Source: H. B. Enderton, A Mathematical Introduction
-- to Logic, section 2.2.
use Rattle.std.specs.Prelude.{◌≡◌, ℕ, Bool, true, false, ◌&&◌, ◌↔◌, IsTrue, List}
use Rattle.base.specs.TypeData.{TypeData, TypesData, BoolType, IntType, NumType, AddressType, SignerType, VectorType, StructType, ParamType, SharedType, MutableType, TupleType, NoTypes, MoreTypes}
use Rattle.fol.specs.declared.shapes.Shape.{Shape}
use Rattle.fol.specs.FormulaData.{FormulaData}
use Rattle.fol.specs.Val.{Val}
use Rattle.fol.specs.Truth.{Interpretation, Assignment, truth_of}

-- the test decides which properties all values have
abbrev pub AnswersRight : ((Val → Bool) → Bool) → Type 0
AnswersRight all = (f : Val → Bool) → IsTrue (all f) ↔ ((v : Val) → IsTrue (f v))

-- decides whether the type is one of Move values: it contains no type parameter, no `num`, no reference and no tuple
abbrev mutual
  pub is_ground : TypeData → Bool
  is_ground BoolType = true
  is_ground (IntType w) = true
  is_ground NumType = false
  is_ground AddressType = true
  is_ground SignerType = true
  is_ground (VectorType t) = is_ground t
  is_ground (StructType s ts) = all_ground ts
  is_ground (ParamType n) = false
  is_ground (SharedType t) = false
  is_ground (MutableType t) = false
  is_ground (TupleType ts) = false

  pub all_ground : TypesData → Bool
  all_ground NoTypes = true
  all_ground (MoreTypes t ts) = is_ground t && all_ground ts

-- an interpretation of these shapes
pub record Reads (shapes : List Shape) (m : Interpretation) : Type 0 where
  pub answers_right : AnswersRight m.all
  pub same_shapes : m.shapes ≡ shapes
  pub names_ground : (n : ℕ) → IsTrue (is_ground (m.named n))

-- the formula is true under each interpretation of these shapes and each assignment
pub record Valid (shapes : List Shape) (p : FormulaData) : Type 0 where
  pub holds : (m : Interpretation) → Reads shapes m → (s : Assignment) → IsTrue (truth_of m p s)
