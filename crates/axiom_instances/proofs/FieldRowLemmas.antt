-- The rows of fields whose types are found, added at the end of others.
use Rattle.std.proofs.Common.{◌≡◌, ℕ, List, [], ◌∷◌, length, Option, Some, None, sym, ap, subst}
use Rattle.base.specs.TypeData.{TypeData}
use Rattle.fol.specs.declared.shapes.Shape.{Shape}
use Rattle.fol.specs.FormulaData.{TermData}
use Rattle.term_pool.specs.Pools.{Extends}
use Rattle.term_pool.specs.declared.node.Node.{Node}
use Rattle.axiom_instances.specs.FieldTypes.{HasNoShape, AreFieldTypes}
use Rattle.axiom_instances.specs.declared.triggered.TriggeredAxiom.{TriggeredAxiom}
use Rattle.axiom_instances.specs.Lists.{Adds}
use Rattle.axiom_instances.specs.Numbers.{IsTermNumber, IsTypeNumber, term_at, type_at}
use Rattle.axiom_instances.specs.StructRows.{AddsAll, upto}
use Rattle.axiom_instances.proofs.ListLemmas.{adds_as}
use Rattle.axiom_instances.proofs.NumberLemmas.{term_kept}
use Rattle.axiom_instances.specs.FieldTypedRows.{AsksFieldTyped, IsFound, field_type_row, found_rows, typed_rows}
use Rattle.axiom_instances.proofs.StructAxiomsNumberLemmas.{type_kept}
use Rattle.axiom_instances.proofs.FieldTypedLemmas.{adds_after, adds_grown, fields_all, no_fields}

pub is_found : {ns : List Node} {found : Option ℕ} {to : ℕ} → found ≡ Some to → IsFound ns found → IsTypeNumber ns to
is_found {ns} e h = subst (IsFound ns) e h

pub one_row : (ns : List Node) (s : TypeData) (t : TermData) (k : ℕ) {found : Option ℕ} {to : ℕ} → found ≡ Some to → field_type_row s t k (type_at ns to) ∷ [] ≡ found_rows ns s t k found
one_row ns s t k e = ap (found_rows ns s t k) (sym e)

pub no_row : (ns : List Node) (s : TypeData) (t : TermData) (k : ℕ) {found : Option ℕ} → found ≡ None → found_rows ns s t k found ≡ []
no_row ns s t k e = ap (found_rows ns s t k) e

module _ (shapes : List Shape) {ns ms : List Node} (grown : Extends ns ms) (of term : ℕ) where
  pub fields_added : {ks : List Node} {xs ys : List TriggeredAxiom} (founds : List (Option ℕ)) → IsTypeNumber ns of → IsTermNumber ns term → AreFieldTypes ms shapes (type_at ns of) founds → Adds ms ks xs ys (upto (typed_rows ms (type_at ms of) (term_at ms term) founds) (length founds)) → AddsAll ns ks xs ys (AsksFieldTyped shapes (type_at ns of) (term_at ns term))
  fields_added founds h i types adds = record {
    instances = upto (typed_rows ms (type_at ns of) (term_at ns term) founds) (length founds);
    adds = adds_after grown (adds_as (λ j. upto (typed_rows ms (type_kept grown h j) (term_kept grown i j) founds) (length founds)) adds);
    exactly = fields_all shapes ms (type_at ns of) (term_at ns term) types.shape types.args types.is_struct founds types.results;
  }

  pub fields_none : (xs : List TriggeredAxiom) → HasNoShape shapes (type_at ns of) → AddsAll ns ms xs xs (AsksFieldTyped shapes (type_at ns of) (term_at ns term))
  fields_none xs none = record { instances = []; adds = adds_grown xs grown; exactly = no_fields shapes (type_at ns of) (term_at ns term) none }
