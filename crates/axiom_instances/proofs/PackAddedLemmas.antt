-- The row of a pack whose parts have types that are found, added at the end of others.
use Rattle.std.proofs.Common.{◌≡◌, ℕ, List, [], ◌∷◌, length, map, Option, sym, ap, ◌∙◌}
use Rattle.fol.specs.declared.shapes.Shape.{Shape}
use Rattle.fol.specs.FormulaData.{PackTerm, list_of_terms, formulas_of}
use Rattle.term_pool.specs.Items.{TermItem, FormulasItem, term_in, formulas_in}
use Rattle.term_pool.specs.Pools.{item_at, IsItem, Extends}
use Rattle.term_pool.specs.declared.node.Node.{Node}
use Rattle.term_pool.proofs.GrowthLemmas.{extends_then}
use Rattle.axiom_instances.specs.FieldTypes.{HasNoShape, AreFieldTypes}
use Rattle.axiom_instances.specs.declared.triggered.TriggeredAxiom.{TriggeredAxiom}
use Rattle.axiom_instances.specs.Lists.{Adds}
use Rattle.axiom_instances.specs.Numbers.{IsPack, term_at, terms_at, type_at}
use Rattle.axiom_instances.specs.StructRows.{AddsAll}
use Rattle.axiom_instances.specs.Templates.{AreItems}
use Rattle.axiom_instances.proofs.ListLemmas.{adds_as}
use Rattle.axiom_instances.proofs.NumberLemmas.{term_number, term_kept}
use Rattle.axiom_instances.proofs.TemplateLemmas.{items_stay}
use Rattle.axiom_instances.specs.FieldTypedRows.{AreFound}
use Rattle.axiom_instances.specs.PackTypedRows.{AsksPackTyped, AreTermNumbers, LacksType, IsTypedList, parts_typed, pack_typed_row}
use Rattle.axiom_instances.proofs.StructAxiomsNumberLemmas.{type_kept}
use Rattle.axiom_instances.proofs.FieldTypedLemmas.{adds_after, adds_grown, all_found}
use Rattle.axiom_instances.proofs.PackTypedLemmas.{are_terms, none_without_shape, none_of_count, none_lacking, parts_all}

pub list_number : {ns ms : List Node} {founds : List (Option ℕ)} {numbers : List ℕ} {list : ℕ} → IsTypedList ns ms founds numbers list → IsItem ms list (FormulasItem (formulas_in (item_at ms list)))
list_number h = record { within = h.is.within; is = h.is.is ∙ ap FormulasItem (sym (ap formulas_in h.is.is)) }

module _ (shapes : List Shape) {ns ms : List Node} {term of parts : ℕ} (pack : IsPack ns term of parts) (grown : Extends ns ms) where
  pub shapeless : (xs : List TriggeredAxiom) → HasNoShape shapes (type_at ns of) → AddsAll ns ms xs xs (AsksPackTyped shapes (type_at ns of) (term_at ns term))
  shapeless xs none = record { instances = []; adds = adds_grown xs grown; exactly = none_without_shape shapes (type_at ns of) (term_at ns term) none }

  module _ (founds : List (Option ℕ)) (types : AreFieldTypes ms shapes (type_at ns of) founds) (numbers : List ℕ) (are : AreItems ns numbers (map TermItem (list_of_terms (terms_at ns parts)))) where
    whole : term_at ns term ≡ PackTerm (type_at ns of) (terms_at ns parts)
    whole = ap term_in pack.whole.is

    pub types_found : AreFound ms founds
    types_found = all_found types.results

    pub parts_numbered : AreTermNumbers ms numbers
    parts_numbered = are_terms (list_of_terms (terms_at ns parts)) (items_stay grown are)

    pub other_count : (xs : List TriggeredAxiom) → (length founds ≡ length numbers → ⊥) → AddsAll ns ms xs xs (AsksPackTyped shapes (type_at ns of) (term_at ns term))
    other_count xs d = record {
      instances = [];
      adds = adds_grown xs grown;
      exactly = none_of_count shapes ms (type_at ns of) (term_at ns term) (terms_at ns parts) whole types.shape types.args types.is_struct founds types.results numbers (items_stay grown are) d;
    }

    module _ (many : length founds ≡ length numbers) {ks : List Node} (further : Extends ms ks) where
      pub type_lacking : (xs : List TriggeredAxiom) → LacksType founds → AddsAll ns ks xs xs (AsksPackTyped shapes (type_at ns of) (term_at ns term))
      type_lacking xs lack = record {
        instances = [];
        adds = adds_grown xs (extends_then grown further);
        exactly = none_lacking shapes ms (type_at ns of) (term_at ns term) (terms_at ns parts) whole types.shape types.args types.is_struct founds types.results numbers (items_stay grown are) many lack;
      }

      pub row_added : {ls : List Node} {xs ys : List TriggeredAxiom} (list : ℕ) → IsTypedList ms ks founds numbers list → Adds ks ls xs ys (pack_typed_row (type_at ks of) (term_at ks term) (formulas_in (item_at ks list)) ∷ []) → AddsAll ns ls xs ys (AsksPackTyped shapes (type_at ns of) (term_at ns term))
      row_added list typed adds =
          let e = extends_then grown further in
          let formulas = ap formulas_in typed.is.is in
          record {
            instances = pack_typed_row (type_at ns of) (term_at ns term) (formulas_of (parts_typed ms founds numbers)) ∷ [];
            adds = adds_after e (adds_as (λ j. pack_typed_row (type_kept e pack.of j) (term_kept e (term_number pack.whole) j) (formulas j) ∷ []) adds);
            exactly = parts_all shapes ms (type_at ns of) (term_at ns term) (terms_at ns parts) whole types.shape types.args types.is_struct founds types.results numbers (items_stay grown are) many typed.found;
          }
