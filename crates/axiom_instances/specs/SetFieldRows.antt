-- The instances that field updates trigger, as whole lists.
use Rattle.std.specs.Prelude.{ℕ, List, [], ◌∷◌, nat_eq, if◌then◌else◌}
use Rattle.base.specs.TypeData.{TypeData}
use Rattle.fol.specs.FormulaData.{TermData, FieldTerm, SetFieldTerm, EqFormula, IsFormula, NotFormula}
use Rattle.axioms.specs.declared.axiom.Axiom.TheVariants.{OfStruct}
use Rattle.axioms.specs.declared.axiom.StructAxiom.TheVariants.{FieldSet, FieldOfOther}
use Rattle.certificates.specs.Table.{some_of}
use Rattle.term_pool.specs.declared.node.Node.{Node}
use Rattle.axiom_instances.specs.Lists.{Triggered}
use Rattle.axiom_instances.specs.Numbers.{IsSetField}
use Rattle.axiom_instances.specs.Rows.{row}
use Rattle.axiom_instances.specs.StructRows.{upto}
use Rattle.axiom_instances.specs.declared.struct_axioms.set_fields.Replacement.{Replacement}

-- the numbers are those of a field update
abbrev pub IsReplacement : List Node → Replacement → Type 0
IsReplacement ns r = IsSetField ns r.field r.term r.of r.before r.value

-- ---- t with v as its field k

abbrev pub set_row : TypeData → ℕ → TermData → TermData → Triggered
set_row s k t v =
    row (OfStruct FieldSet) (SetFieldTerm s k t v) (some_of (NotFormula (IsFormula s t) ∷ EqFormula (FieldTerm s k (SetFieldTerm s k t v)) v ∷ []))

abbrev pub other_row : TypeData → ℕ → ℕ → TermData → TermData → Triggered
other_row s j k t v =
    row (OfStruct FieldOfOther) (SetFieldTerm s k t v) (EqFormula (FieldTerm s j (SetFieldTerm s k t v)) (FieldTerm s j t))

abbrev pub other_rows : TypeData → ℕ → TermData → TermData → ℕ → List Triggered
other_rows s k t v j = if nat_eq j k then [] else (other_row s j k t v ∷ [])

abbrev pub set_field_rows : TypeData → ℕ → TermData → TermData → ℕ → List Triggered
set_field_rows s k t v n = set_row s k t v ∷ upto (other_rows s k t v) n
