-- The instances of the axiom that a struct is the pack of its fields, as whole lists.
use Rattle.std.specs.Prelude.{◌≡◌, ℕ, zero, suc, List, [], ◌∷◌}
use Rattle.base.specs.TypeData.{TypeData}
use Rattle.fol.specs.declared.shapes.Shape.{Shape}
use Rattle.fol.specs.FormulaData.{TermData, PackTerm, FieldTerm, FormulaData, EqFormula, IsFormula, NotFormula, terms_of}
use Rattle.axioms.specs.declared.axiom.Axiom.{Axiom}
use Rattle.axioms.specs.declared.axiom.Axiom.TheVariants.{OfStruct}
use Rattle.axioms.specs.declared.axiom.StructAxiom.TheVariants.{PackOfFields}
use Rattle.certificates.specs.Table.{some_of}
use Rattle.axiom_instances.specs.Asks.{AsksOfType}
use Rattle.axiom_instances.specs.Lists.{Triggered}
use Rattle.axiom_instances.specs.Rows.{row}

-- an instance of this axiom that the type and the term trigger
pub record AsksPacked (shapes : List Shape) (a : TypeData) (t : TermData) (name : Axiom) (ts : List TermData) (p : FormulaData) : Type 0 where
  pub triggered : AsksOfType shapes a t name ts p
  pub is_axiom : name ≡ OfStruct PackOfFields

-- this many fields of t from this number on, as a struct of type s
abbrev pub fields_from : TypeData → TermData → ℕ → ℕ → List TermData
fields_from s t k zero = []
fields_from s t k (suc n) = FieldTerm s k t ∷ fields_from s t (suc k) n

abbrev pub fields_of : TypeData → TermData → ℕ → List TermData
fields_of s t n = fields_from s t 0 n

abbrev pub packed_row : TypeData → TermData → ℕ → Triggered
packed_row s t n =
    row (OfStruct PackOfFields) t (some_of (NotFormula (IsFormula s t) ∷ EqFormula t (PackTerm s (terms_of (fields_of s t n))) ∷ []))
