-- The instances of the axiom on the types of the parts of a pack, as whole lists.
use Rattle.std.specs.Prelude.{◌≡◌, ◌≢◌, ℕ, zero, suc, ◌<◌, List, [], ◌∷◌, length, slice_index_or, Option, Some, None}
use Rattle.base.specs.TypeData.{TypeData, BoolType}
use Rattle.fol.specs.declared.shapes.Shape.{Shape}
use Rattle.fol.specs.FormulaData.{TermData, TermsData, PackTerm, FormulaData, FormulasData, IsFormula, AllOfFormula, IffFormula, formulas_of}
use Rattle.axioms.specs.declared.axiom.Axiom.{Axiom}
use Rattle.axioms.specs.declared.axiom.Axiom.TheVariants.{OfStruct}
use Rattle.axioms.specs.declared.axiom.StructAxiom.TheVariants.{PackTyped}
use Rattle.term_pool.specs.Items.{FormulasItem}
use Rattle.term_pool.specs.Pools.{IsItem}
use Rattle.term_pool.specs.declared.node.Node.{Node}
use Rattle.axiom_instances.specs.Asks.{AsksOfType}
use Rattle.axiom_instances.specs.Lists.{Triggered}
use Rattle.axiom_instances.specs.Numbers.{IsTermNumber, term_at, type_at}
use Rattle.axiom_instances.specs.Rows.{row}

-- an instance of this axiom that the type and the term trigger
pub record AsksPackTyped (shapes : List Shape) (a : TypeData) (t : TermData) (name : Axiom) (ts : List TermData) (p : FormulaData) : Type 0 where
  pub triggered : AsksOfType shapes a t name ts p
  pub is_axiom : name ≡ OfStruct PackTyped

-- the term is no pack of this type
pub record IsNoPack (a : TypeData) (t : TermData) : Type 0 where
  pub none : (us : TermsData) → t ≡ PackTerm a us → ⊥

-- each is the number of a term
pub record AreTermNumbers (ns : List Node) (numbers : List ℕ) : Type 0 where
  pub each : (k : ℕ) → k < length numbers → IsTermNumber ns (slice_index_or numbers k 0)

-- some type is not found
pub record LacksType (founds : List (Option ℕ)) : Type 0 where
  pub position : ℕ
  pub within : position < length founds
  pub lacks : slice_index_or founds position None ≡ None

pub record AreAllFound (founds : List (Option ℕ)) : Type 0 where
  pub each : (k : ℕ) → k < length founds → slice_index_or founds k None ≢ None

-- ---- formulas that state the types of terms

-- the formulas for this many numbers from this one on
abbrev pub typed_from : (ℕ → TypeData) → (ℕ → TermData) → ℕ → ℕ → List FormulaData
typed_from types terms k zero = []
typed_from types terms k (suc n) = IsFormula (types k) (terms k) ∷ typed_from types terms (suc k) n

-- the type that is found, and an arbitrary one if none is
abbrev pub found_type : List Node → Option ℕ → TypeData
found_type ns None = BoolType
found_type ns (Some n) = type_at ns n

abbrev pub found_types : List Node → List (Option ℕ) → ℕ → TypeData
found_types ns founds k = found_type ns (slice_index_or founds k None)

abbrev pub terms_numbered : List Node → List ℕ → ℕ → TermData
terms_numbered ns numbers k = term_at ns (slice_index_or numbers k 0)

abbrev pub parts_typed : List Node → List (Option ℕ) → List ℕ → List FormulaData
parts_typed ns founds numbers = typed_from (found_types ns founds) (terms_numbered ns numbers) 0 (length numbers)

-- all types are found, and the number is that of the list of the formulas that state that the terms have them
pub record IsTypedList (ns ms : List Node) (founds : List (Option ℕ)) (numbers : List ℕ) (list : ℕ) : Type 0 where
  pub found : AreAllFound founds
  pub is : IsItem ms list (FormulasItem (formulas_of (parts_typed ns founds numbers)))

abbrev pub pack_typed_row : TypeData → TermData → FormulasData → Triggered
pack_typed_row s t ps = row (OfStruct PackTyped) t (IffFormula (IsFormula s t) (AllOfFormula ps))
