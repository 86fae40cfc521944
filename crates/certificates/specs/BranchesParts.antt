-- Head symbols and parts of terms and formulas, and the terms that occur in them outside quantifiers.
use Rattle.std.specs.Prelude.{List, [], ◌∷◌, Contains}
use Rattle.base.specs.TypeData.{TypeData}
use Rattle.fol.specs.declared.operators.Comparison.{Comparison}
use Rattle.fol.specs.declared.operators.Connective.{Connective}
use Rattle.fol.specs.declared.operators.Junction.{Junction}
use Rattle.fol.specs.FormulaData.{TermData, VarTerm, ConstantTerm, UnaryTerm, BinaryTerm, TernaryTerm, PackTerm, FieldTerm, SetFieldTerm, IfTerm, FormulaData, CompareFormula, IsFormula, HoldsFormula, NotFormula, JoinFormula, ConnectFormula, FormulasData, terms_of, list_of_terms, list_of_formulas}

-- the direct subterms of a term; the condition of an `If` belongs to its head symbol
abbrev pub parts_of_term : TermData → List TermData
parts_of_term (VarTerm n) = []
parts_of_term (ConstantTerm c) = []
parts_of_term (UnaryTerm o t) = t ∷ []
parts_of_term (BinaryTerm o t u) = t ∷ u ∷ []
parts_of_term (TernaryTerm o t u v) = t ∷ u ∷ v ∷ []
parts_of_term (PackTerm a ts) = list_of_terms ts
parts_of_term (FieldTerm a k t) = t ∷ []
parts_of_term (SetFieldTerm a k t u) = t ∷ u ∷ []
parts_of_term (IfTerm p t u) = t ∷ u ∷ []

-- the term with other parts, if they are as many
abbrev pub with_parts : TermData → List TermData → TermData
with_parts (UnaryTerm o t) (x ∷ []) = UnaryTerm o x
with_parts (BinaryTerm o t u) (x ∷ y ∷ []) = BinaryTerm o x y
with_parts (TernaryTerm o t u v) (x ∷ y ∷ z ∷ []) = TernaryTerm o x y z
with_parts (PackTerm a ts) xs = PackTerm a (terms_of xs)
with_parts (FieldTerm a k t) (x ∷ []) = FieldTerm a k x
with_parts (SetFieldTerm a k t u) (x ∷ y ∷ []) = SetFieldTerm a k x y
with_parts (IfTerm p t u) (x ∷ y ∷ []) = IfTerm p x y
with_parts t xs = t

mutual
  -- the term is the other one, or occurs in it outside quantifiers
  pub data IsIn (t : TermData) : TermData → Type 0 where
    Itself : IsIn t t
    InPart : (u v : TermData) → Contains (parts_of_term u) v → IsIn t v → IsIn t u
    InCondition : (p : FormulaData) (u v : TermData) → IsInFormula t p → IsIn t (IfTerm p u v)

  -- the term occurs in the formula outside quantifiers
  pub data IsInFormula (t : TermData) : FormulaData → Type 0 where
    InLeft : (o : Comparison) (u v : TermData) → IsIn t u → IsInFormula t (CompareFormula o u v)
    InRight : (o : Comparison) (u v : TermData) → IsIn t v → IsInFormula t (CompareFormula o u v)
    InTyped : (a : TypeData) (u : TermData) → IsIn t u → IsInFormula t (IsFormula a u)
    InHolds : (u : TermData) → IsIn t u → IsInFormula t (HoldsFormula u)
    InDenied : (p : FormulaData) → IsInFormula t p → IsInFormula t (NotFormula p)
    InJoined : (o : Junction) (ps : FormulasData) (p : FormulaData) → Contains (list_of_formulas ps) p → IsInFormula t p → IsInFormula t (JoinFormula o ps)
    InFirst : (o : Connective) (p q : FormulaData) → IsInFormula t p → IsInFormula t (ConnectFormula o p q)
    InSecond : (o : Connective) (p q : FormulaData) → IsInFormula t q → IsInFormula t (ConnectFormula o p q)
