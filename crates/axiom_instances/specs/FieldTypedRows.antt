-- The instances of the axiom on the types of fields, as whole lists.
use Rattle.std.specs.Prelude.{◌≡◌, ℕ, List, [], ◌∷◌, slice_index_or, Option, Some, None}
use Rattle.base.specs.TypeData.{TypeData}
use Rattle.fol.specs.declared.shapes.Shape.{Shape}
use Rattle.fol.specs.FormulaData.{TermData, FieldTerm, FormulaData, IsFormula, ImpliesFormula}
use Rattle.axioms.specs.declared.axiom.Axiom.{Axiom}
use Rattle.axioms.specs.declared.axiom.Axiom.TheVariants.{OfStruct}
use Rattle.axioms.specs.declared.axiom.StructAxiom.TheVariants.{FieldTyped}
use Rattle.term_pool.specs.declared.node.Node.{Node}
use Rattle.axiom_instances.specs.Asks.{AsksOfType}
use Rattle.axiom_instances.specs.Lists.{Triggered}
use Rattle.axiom_instances.specs.Numbers.{IsTypeNumber, type_at}
use Rattle.axiom_instances.specs.Rows.{row}

-- an instance of this axiom that the type and the term trigger
pub record AsksFieldTyped (shapes : List Shape) (a : TypeData) (t : TermData) (name : Axiom) (ts : List TermData) (p : FormulaData) : Type 0 where
  pub triggered : AsksOfType shapes a t name ts p
  pub is_axiom : name ≡ OfStruct FieldTyped

-- the number, if there is one, is that of a type
abbrev pub IsFound : List Node → Option ℕ → Type 0
IsFound ns None = Unit {0}
IsFound ns (Some n) = IsTypeNumber ns n

pub record AreFound (ns : List Node) (founds : List (Option ℕ)) : Type 0 where
  pub each : (k : ℕ) → IsFound ns (slice_index_or founds k None)

abbrev pub field_type_row : TypeData → TermData → ℕ → TypeData → Triggered
field_type_row s t k a = row (OfStruct FieldTyped) t (ImpliesFormula (IsFormula s t) (IsFormula a (FieldTerm s k t)))

-- the instance for field k of a struct t of type s, if the type of the field is found
abbrev pub found_rows : List Node → TypeData → TermData → ℕ → Option ℕ → List Triggered
found_rows ns s t k None = []
found_rows ns s t k (Some n) = field_type_row s t k (type_at ns n) ∷ []

abbrev pub typed_rows : List Node → TypeData → TermData → List (Option ℕ) → ℕ → List Triggered
typed_rows ns s t founds k = found_rows ns s t k (slice_index_or founds k None)
