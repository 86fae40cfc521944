-- The depth of a formula: the greatest number of terms, formulas and types that are nested.
use Rattle.std.specs.Prelude.{ℕ, ◌+◌, ◌<◌, max}
use Rattle.std.proofs.Common.{arith}
use Rattle.base.specs.TypeData.{TypeData, TypesData, BoolType, IntType, NumType, AddressType, SignerType, VectorType, StructType, ParamType, SharedType, MutableType, TupleType, NoTypes, MoreTypes}
use Rattle.fol.specs.FormulaData.{TermData, VarTerm, ConstantTerm, UnaryTerm, BinaryTerm, TernaryTerm, PackTerm, FieldTerm, SetFieldTerm, IfTerm, TermsData, NoTerms, MoreTerms, TriggersData, NoTriggers, MoreTriggers, FormulaData, CompareFormula, IsFormula, HoldsFormula, NotFormula, JoinFormula, ConnectFormula, QuantifyFormula, FormulasData, NoFormulas, MoreFormulas}

abbrev mutual
  pub type_depth : TypeData → ℕ
  type_depth BoolType = 1
  type_depth (IntType w) = 1
  type_depth NumType = 1
  type_depth AddressType = 1
  type_depth SignerType = 1
  type_depth (VectorType t) = 1 + type_depth t
  type_depth (StructType s ts) = 1 + types_depth ts
  type_depth (ParamType n) = 1
  type_depth (SharedType t) = 1 + type_depth t
  type_depth (MutableType t) = 1 + type_depth t
  type_depth (TupleType ts) = 1 + types_depth ts

  pub types_depth : TypesData → ℕ
  types_depth NoTypes = 0
  types_depth (MoreTypes t ts) = max (type_depth t) (types_depth ts)

abbrev mutual
  pub term_depth : TermData → ℕ
  term_depth (VarTerm n) = 1
  term_depth (ConstantTerm c) = 1
  term_depth (UnaryTerm o t) = 1 + term_depth t
  term_depth (BinaryTerm o t u) = 1 + max (term_depth t) (term_depth u)
  term_depth (TernaryTerm o t u v) = 1 + max (term_depth t) (max (term_depth u) (term_depth v))
  term_depth (PackTerm a ts) = 1 + max (type_depth a) (terms_depth ts)
  term_depth (FieldTerm a k t) = 1 + max (type_depth a) (term_depth t)
  term_depth (SetFieldTerm a k t u) = 1 + max (type_depth a) (max (term_depth t) (term_depth u))
  term_depth (IfTerm p t u) = 1 + max (formula_depth p) (max (term_depth t) (term_depth u))

  pub terms_depth : TermsData → ℕ
  terms_depth NoTerms = 0
  terms_depth (MoreTerms t ts) = max (term_depth t) (terms_depth ts)

  pub triggers_depth : TriggersData → ℕ
  triggers_depth NoTriggers = 0
  triggers_depth (MoreTriggers t ts) = max (terms_depth t) (triggers_depth ts)

  pub formula_depth : FormulaData → ℕ
  formula_depth (CompareFormula o t u) = 1 + max (term_depth t) (term_depth u)
  formula_depth (IsFormula a t) = 1 + max (type_depth a) (term_depth t)
  formula_depth (HoldsFormula t) = 1 + term_depth t
  formula_depth (NotFormula p) = 1 + formula_depth p
  formula_depth (JoinFormula o ps) = 1 + formulas_depth ps
  formula_depth (ConnectFormula o p q) = 1 + max (formula_depth p) (formula_depth q)
  formula_depth (QuantifyFormula o n ts p) = 1 + max (triggers_depth ts) (formula_depth p)

  pub formulas_depth : FormulasData → ℕ
  formulas_depth NoFormulas = 0
  formulas_depth (MoreFormulas p ps) = max (formula_depth p) (formulas_depth ps)
