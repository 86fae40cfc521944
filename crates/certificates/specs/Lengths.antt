-- The lengths in bytes of a type, a term, a formula, a move and a certificate.
use Rattle.std.specs.Prelude.{◌≡◌, ℕ, ◌+◌, ◌-◌, ◌*◌, ◌^◌, min, List, [], ◌∷◌, length}
use Rattle.base.specs.TypeData.{TypeData, TypesData, BoolType, IntType, NumType, AddressType, SignerType, VectorType, StructType, ParamType, SharedType, MutableType, TupleType, NoTypes, MoreTypes}
use Rattle.fol.specs.declared.operators.Constant.{Constant}
use Rattle.fol.specs.declared.operators.Constant.TheVariants.{Num, Wide}
use Rattle.fol.specs.declared.operators.Binary.{Binary}
use Rattle.fol.specs.declared.operators.Binary.TheVariants.{Shl, Shr}
use Rattle.fol.specs.FormulaData.{TermData, VarTerm, ConstantTerm, UnaryTerm, BinaryTerm, TernaryTerm, PackTerm, FieldTerm, SetFieldTerm, IfTerm, TermsData, NoTerms, MoreTerms, TriggersData, NoTriggers, MoreTriggers, FormulaData, CompareFormula, IsFormula, HoldsFormula, NotFormula, JoinFormula, ConnectFormula, QuantifyFormula, FormulasData, NoFormulas, MoreFormulas, formulas_of}
use Rattle.certificates.specs.CertData.{StepData, PartsStep, AxiomStep, InstanceStep, NameStep, RewriteStep, CloseData, LinearClose, ClashClose, FalseClose, MoveData, StraightMove, ForkedMove, ClosedMove}
use Rattle.certificates.specs.declared.certificate.Cause.{Cause}
use Rattle.certificates.specs.declared.certificate.Cause.TheVariants.{Split, Cut, Bound}
use Rattle.certificates.specs.Trees.{TreeData, moves_of}
use Rattle.certificates.specs.CertificateBytes.{certificate_bytes}

-- a number, capped at the greatest of 64 bits
abbrev pub capped : ℕ → ℕ
capped n = min n (2 ^ 64 - 1)

abbrev mutual
  pub type_length : TypeData → ℕ
  type_length BoolType = 1
  type_length (IntType w) = 1
  type_length NumType = 1
  type_length AddressType = 1
  type_length SignerType = 1
  type_length (VectorType t) = 1 + type_length t
  type_length (StructType s ts) = 29 + (length s.«module» + (length s.name + types_length ts))
  type_length (ParamType n) = 5
  type_length (SharedType t) = 1 + type_length t
  type_length (MutableType t) = 1 + type_length t
  type_length (TupleType ts) = 5 + types_length ts

  pub types_length : TypesData → ℕ
  types_length NoTypes = 0
  types_length (MoreTypes t ts) = type_length t + types_length ts

abbrev pub constant_length : Constant → ℕ
constant_length (Num i) = 17
constant_length (Wide u) = 17
constant_length _ = 1

abbrev pub binary_length : Binary → ℕ
binary_length (Shl w) = 2
binary_length (Shr w) = 2
binary_length _ = 1

abbrev mutual
  pub term_length : TermData → ℕ
  term_length (VarTerm n) = 5
  term_length (ConstantTerm c) = constant_length c
  term_length (UnaryTerm o t) = 1 + term_length t
  term_length (BinaryTerm o t u) = binary_length o + (term_length t + term_length u)
  term_length (TernaryTerm o t u v) = 1 + (term_length t + (term_length u + term_length v))
  term_length (PackTerm a ts) = 5 + (type_length a + terms_length ts)
  term_length (FieldTerm a k t) = 5 + (type_length a + term_length t)
  term_length (SetFieldTerm a k t u) = 5 + (type_length a + (term_length t + term_length u))
  term_length (IfTerm p t u) = 1 + (formula_length p + (term_length t + term_length u))

  pub terms_length : TermsData → ℕ
  terms_length NoTerms = 0
  terms_length (MoreTerms t ts) = term_length t + terms_length ts

  pub triggers_length : TriggersData → ℕ
  triggers_length NoTriggers = 0
  triggers_length (MoreTriggers t ts) = (4 + terms_length t) + triggers_length ts

  pub formula_length : FormulaData → ℕ
  formula_length (CompareFormula o t u) = 1 + (term_length t + term_length u)
  formula_length (IsFormula a t) = 1 + (type_length a + term_length t)
  formula_length (HoldsFormula t) = 1 + term_length t
  formula_length (NotFormula p) = 1 + formula_length p
  formula_length (JoinFormula o ps) = 5 + formulas_length ps
  formula_length (ConnectFormula o p q) = 1 + (formula_length p + formula_length q)
  formula_length (QuantifyFormula o n ts p) = 9 + (triggers_length ts + formula_length p)

  pub formulas_length : FormulasData → ℕ
  formulas_length NoFormulas = 0
  formulas_length (MoreFormulas p ps) = formula_length p + formulas_length ps

abbrev pub list_length : List FormulaData → ℕ
list_length ps = formulas_length (formulas_of ps)

-- ---- moves: the bytes that they add to the encoding of their tree

abbrev pub step_length : StepData → ℕ
step_length (PartsStep i ps) = 9 + list_length ps
step_length (AxiomStep name p) = 5 + formula_length p
step_length (InstanceStep i t p) = 5 + (term_length t + formula_length p)
step_length (NameStep i v p) = 9 + formula_length p
step_length (RewriteStep i j x c p) = 9 + formula_length p

-- a cut encodes its first case, and a bound the first term of its first case and a number
abbrev pub first_length : List FormulaData → ℕ
first_length [] = 0
first_length (p ∷ ps) = formula_length p

abbrev pub compared_length : FormulaData → ℕ
compared_length (CompareFormula o t u) = term_length t
compared_length _ = 0

abbrev pub bound_length : List FormulaData → ℕ
bound_length [] = 0
bound_length (p ∷ ps) = compared_length p

abbrev pub fork_length : Cause → List FormulaData → ℕ
fork_length (Split i) ps = 9 + list_length ps
fork_length Cut ps = 1 + first_length ps
fork_length (Bound i) ps = 17 + bound_length ps

abbrev pub close_length : CloseData → ℕ
close_length (LinearClose ms) = 5 + 20 * length ms
close_length (ClashClose i j) = 9
close_length (FalseClose i) = 5

abbrev pub move_length : MoveData → ℕ
move_length (StraightMove step) = step_length step
move_length (ForkedMove cause ps) = fork_length cause ps
move_length (ClosedMove by) = close_length by

abbrev pub moves_length : List MoveData → ℕ
moves_length [] = 0
moves_length (m ∷ ms) = move_length m + moves_length ms

-- the length, capped at the greatest number of 64 bits, of the encoding of the tree with these moves
pub record IsLengthOf (moves : List MoveData) (n : ℕ) : Type 0 where
  pub of_tree : (tree : TreeData) → moves_of tree ≡ moves → n ≡ capped (length (certificate_bytes tree))
