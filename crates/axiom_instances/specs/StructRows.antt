-- The instances that packs trigger, as whole lists.
use Rattle.std.specs.Prelude.{◌≡◌, ℕ, zero, suc, ◌<◌, ◌^◌, List, [], ◌∷◌, ◌++◌, length, slice_index_or, All}
use Rattle.base.specs.TypeData.{TypeData, list_of_types}
use Rattle.fol.specs.declared.shapes.Shape.{Shape}
use Rattle.fol.specs.FormulaData.{TermData, NothingTerm, FieldTerm, MoreTerms, FormulaData, EqFormula}
use Rattle.axioms.specs.declared.axiom.Axiom.{Axiom}
use Rattle.axioms.specs.declared.axiom.Axiom.TheVariants.{OfStruct}
use Rattle.axioms.specs.declared.axiom.StructAxiom.TheVariants.{FieldOfPack}
use Rattle.axioms.specs.Fields.{HasFields}
use Rattle.term_pool.specs.declared.node.Node.{Node}
use Rattle.axiom_instances.specs.declared.triggered.TriggeredAxiom.{TriggeredAxiom}
use Rattle.axiom_instances.specs.Lists.{Triggered, Adds, AreAll}
use Rattle.axiom_instances.specs.Numbers.{IsTermNumber, term_at, terms_at}
use Rattle.axiom_instances.specs.Rows.{row}

-- the number of fields of each struct fits the numbers of fields
pub record HasFewFields (shapes : List Shape) : Type 0 where
  pub few : All (λ shape. length (list_of_types shape.fields) < 2 ^ 32) shapes

-- the type is no struct type with a shape
pub record HasNoFields (shapes : List Shape) (a : TypeData) : Type 0 where
  pub none : (n : ℕ) → HasFields shapes a n → ⊥

-- exactly the instances of a trigger were added at the end of others
pub record AddsAll (ns ms : List Node) (xs ys : List TriggeredAxiom) (asks : Axiom → List TermData → FormulaData → Type 0) : Type 0 where
  pub instances : List Triggered
  pub adds : Adds ns ms xs ys instances
  pub exactly : AreAll instances asks

-- the concatenated lists for 0, 1 and so on below a number
abbrev pub upto : (ℕ → List Triggered) → ℕ → List Triggered
upto f zero = []
upto f (suc n) = upto f n ++ f n

-- ---- a struct p of type s that is the pack of the fields us

abbrev pub field_row : TypeData → TermData → ℕ → TermData → Triggered
field_row s p k u = row (OfStruct FieldOfPack) p (EqFormula (FieldTerm s k p) u)

abbrev pub field_rows : TypeData → TermData → List TermData → ℕ → List Triggered
field_rows s p us k = field_row s p k (slice_index_or us k NothingTerm) ∷ []

-- ---- lists of terms

-- the first of a list of terms and the rest
pub record IsNextPart (ns : List Node) (list : ℕ) (p : ℕ × ℕ) : Type 0 where
  pub part : IsTermNumber ns p.0
  pub earlier : p.1 < list
  pub is : terms_at ns list ≡ MoreTerms (term_at ns p.0) (terms_at ns p.1)
