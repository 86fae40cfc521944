-- An empty list has depth 0, and a list is as deep as its first item or the rest.
use Rattle.std.proofs.Common.{◌≡◌, ℕ, zero, suc, ◌+◌, ◌<◌, ◌≤◌, max, List, [], ◌∷◌, length, get_or, drop, refl, ap, arith, add-one, drop-cons}
use Rattle.base.specs.TypeData.{TypeData, types_of, BoolType, IntType, NumType, AddressType, SignerType, VectorType, StructType, ParamType, SharedType, MutableType, TupleType}
use Rattle.fol.specs.FormulaData.{TermData, VarTerm, ConstantTerm, UnaryTerm, BinaryTerm, TernaryTerm, PackTerm, FieldTerm, SetFieldTerm, IfTerm, TermsData, FormulaData, CompareFormula, IsFormula, HoldsFormula, NotFormula, JoinFormula, ConnectFormula, QuantifyFormula, terms_of, triggers_of, formulas_of}
use Rattle.fol.specs.Depth.{type_depth, types_depth, term_depth, terms_depth, triggers_depth, formula_depth, formulas_depth}

pub type_depth_positive : (t : TypeData) → 0 < type_depth t
type_depth_positive BoolType = omega arith
type_depth_positive (IntType w) = omega arith
type_depth_positive NumType = omega arith
type_depth_positive AddressType = omega arith
type_depth_positive SignerType = omega arith
type_depth_positive (VectorType t) = omega arith
type_depth_positive (StructType s ts) = omega arith
type_depth_positive (ParamType n) = omega arith
type_depth_positive (SharedType t) = omega arith
type_depth_positive (MutableType t) = omega arith
type_depth_positive (TupleType ts) = omega arith

pub term_depth_positive : (t : TermData) → 0 < term_depth t
term_depth_positive (VarTerm n) = omega arith
term_depth_positive (ConstantTerm c) = omega arith
term_depth_positive (UnaryTerm o t) = omega arith
term_depth_positive (BinaryTerm o t u) = omega arith
term_depth_positive (TernaryTerm o t u v) = omega arith
term_depth_positive (PackTerm a ts) = omega arith
term_depth_positive (FieldTerm a k t) = omega arith
term_depth_positive (SetFieldTerm a k t u) = omega arith
term_depth_positive (IfTerm p t u) = omega arith

pub formula_depth_positive : (p : FormulaData) → 0 < formula_depth p
formula_depth_positive (CompareFormula o t u) = omega arith
formula_depth_positive (IsFormula a t) = omega arith
formula_depth_positive (HoldsFormula t) = omega arith
formula_depth_positive (NotFormula p) = omega arith
formula_depth_positive (JoinFormula o ps) = omega arith
formula_depth_positive (ConnectFormula o p q) = omega arith
formula_depth_positive (QuantifyFormula o n ts p) = omega arith

pub types_depth_drop : (xs : List TypeData) (i : ℕ) (d : TypeData) → i < length xs → types_depth (types_of (drop i xs)) ≡ max (type_depth (get_or xs i d)) (types_depth (types_of (drop (i + 1) xs)))
types_depth_drop xs i d h = rw (add-one, drop-cons xs i d)

pub terms_depth_drop : (xs : List TermData) (i : ℕ) (d : TermData) → i < length xs → terms_depth (terms_of (drop i xs)) ≡ max (term_depth (get_or xs i d)) (terms_depth (terms_of (drop (i + 1) xs)))
terms_depth_drop xs i d h = rw (add-one, drop-cons xs i d)

pub triggers_depth_drop : (xs : List TermsData) (i : ℕ) (d : TermsData) → i < length xs → triggers_depth (triggers_of (drop i xs)) ≡ max (terms_depth (get_or xs i d)) (triggers_depth (triggers_of (drop (i + 1) xs)))
triggers_depth_drop xs i d h = rw (add-one, drop-cons xs i d)

pub formulas_depth_drop : (xs : List FormulaData) (i : ℕ) (d : FormulaData) → i < length xs → formulas_depth (formulas_of (drop i xs)) ≡ max (formula_depth (get_or xs i d)) (formulas_depth (formulas_of (drop (i + 1) xs)))
formulas_depth_drop xs i d h = rw (add-one, drop-cons xs i d)
