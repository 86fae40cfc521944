-- The axioms on struct types, whose fields are given by their shapes. s is a struct type and k the number of a field.
use Rattle.std.specs.Prelude.{◌≡◌, ◌≢◌, ℕ, ◌<◌, List, [], ◌∷◌, length, slice_get, slice_index_or, Some}
use Rattle.base.specs.TypeData.{TypeData, TypesData, list_of_types}
use Rattle.fol.specs.declared.shapes.Shape.{Shape}
use Rattle.fol.specs.FormulaData.{TermData, PackTerm, FieldTerm, SetFieldTerm, FormulaData, EqFormula, IsFormula, NotFormula, AllOfFormula, AnyOfFormula, ImpliesFormula, IffFormula, terms_of, formulas_of}
use Rattle.axioms.specs.declared.axiom.StructAxiom.{StructAxiom}
use Rattle.axioms.specs.declared.axiom.StructAxiom.TheVariants.{FieldOfPack, FieldSet, FieldOfOther, PackOfFields, PackTyped, FieldTyped}
use Rattle.axioms.specs.Fields.{IsStruct, HasFields, HasField, HasFieldType, IsPut}

-- the terms are the first fields of t, in order, as a struct of type s
unfoldable pub AreFieldsOf : TypeData → TermData → List TermData → Type 0
AreFieldsOf s t ts = (k : ℕ) (d : TermData) → k < length ts → slice_index_or ts k d ≡ FieldTerm s k t

-- the formula states that the term has the type f with the type arguments substituted
abbrev pub IsFieldTyped : List TypeData → TypeData → TermData → FormulaData → Type 0
IsFieldTyped args f t p = (a : TypeData) × IsPut args f a × (p ≡ IsFormula a t)

-- there is a term and a formula for each type of a field, and the formula states that the term has it
unfoldable pub AreFieldsTyped : List TypeData → List TypeData → List TermData → List FormulaData → Type 0
AreFieldsTyped args fields ts ps =
    (length ts ≡ length fields) × (length ps ≡ length fields) × ((k : ℕ) (f : TypeData) (t : TermData) (p : FormulaData) → k < length fields → IsFieldTyped args (slice_index_or fields k f) (slice_index_or ts k t) (slice_index_or ps k p))

-- s is the type of a struct, and the formulas state that the terms have the types of its fields
unfoldable pub ArePartsTyped : List Shape → TypeData → List TermData → List FormulaData → Type 0
ArePartsTyped shapes s ts ps =
    (shape : Shape) × (args : TypesData) × IsStruct shapes s shape args × AreFieldsTyped (list_of_types args) (list_of_types shape.fields) ts ps

abbrev pub IsStructAxiom : List Shape → StructAxiom → FormulaData → Type 0
IsStructAxiom shapes FieldOfPack p =
    (s : TypeData) × (k : ℕ) × (ts : List TermData) × (t : TermData) × HasFields shapes s (length ts) × (slice_get ts k ≡ Some t) × (p ≡ EqFormula (FieldTerm s k (PackTerm s (terms_of ts))) t)
IsStructAxiom shapes FieldSet p =
    (s : TypeData) × (k : ℕ) × (t : TermData) × (v : TermData) × HasField shapes s k × (p ≡ AnyOfFormula (formulas_of (NotFormula (IsFormula s t) ∷ EqFormula (FieldTerm s k (SetFieldTerm s k t v)) v ∷ [])))
IsStructAxiom shapes FieldOfOther p =
    (s : TypeData) × (j : ℕ) × (k : ℕ) × (t : TermData) × (v : TermData) × HasField shapes s j × HasField shapes s k × (j ≢ k) × (p ≡ EqFormula (FieldTerm s j (SetFieldTerm s k t v)) (FieldTerm s j t))
IsStructAxiom shapes PackOfFields p =
    (s : TypeData) × (ts : List TermData) × (t : TermData) × HasFields shapes s (length ts) × AreFieldsOf s t ts × (p ≡ AnyOfFormula (formulas_of (NotFormula (IsFormula s t) ∷ EqFormula t (PackTerm s (terms_of ts)) ∷ [])))
IsStructAxiom shapes PackTyped p =
    (s : TypeData) × (ts : List TermData) × (ps : List FormulaData) × ArePartsTyped shapes s ts ps × (p ≡ IffFormula (IsFormula s (PackTerm s (terms_of ts))) (AllOfFormula (formulas_of ps)))
IsStructAxiom shapes FieldTyped p =
    (s : TypeData) × (k : ℕ) × (t : TermData) × (a : TypeData) × HasFieldType shapes s k a × (p ≡ ImpliesFormula (IsFormula s t) (IsFormula a (FieldTerm s k t)))
