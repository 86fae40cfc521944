-- The instances that a struct type and a term trigger together are those of each of the axioms on struct types.
use Rattle.std.proofs.Common.{◌≡◌, ℕ, List, [], ◌∷◌, ◌++◌, Some, refl, sym, ap, ◌∙◌, subst}
use Rattle.base.specs.TypeData.{TypeData, BoolType, SignerType, VectorType, StructType, TypesData}
use Rattle.base.specs.declared.types.StructId.{StructId}
use Rattle.fol.specs.declared.shapes.Shape.{Shape}
use Rattle.fol.specs.FormulaData.{TermData, FormulaData}
use Rattle.axioms.specs.declared.axiom.Axiom.{Axiom}
use Rattle.axioms.specs.Equivalences.{greatest}
use Rattle.term_pool.specs.declared.node.Node.{Node}
use Rattle.axiom_instances.specs.FieldTypes.{IsNoStructType}
use Rattle.axiom_instances.specs.declared.triggered.TriggeredAxiom.{TriggeredAxiom}
use Rattle.axiom_instances.specs.Asks.{AsksOfType, ByStructTyped, ByPackTyped, ByFieldTyped, ByRange, BySigner, ByVector, ByBool}
use Rattle.axiom_instances.specs.Lists.{Triggered, IsAmong, AreOnly, AreAll, ListsAll}
use Rattle.axiom_instances.specs.Numbers.{IsTermNumber, IsTypeNumber, IsStructType, term_at, type_at}
use Rattle.axiom_instances.specs.StructRows.{AddsAll}
use Rattle.axiom_instances.specs.TypeRows.{IsNoStruct}
use Rattle.axiom_instances.proofs.ListLemmas.{adds_then, lists_all}
use Rattle.axiom_instances.proofs.NumberLemmas.{term_kept, number_stays}
use Rattle.axiom_instances.proofs.RowLemmas.{among_left, among_right, both_only}
use Rattle.axiom_instances.specs.PackedRows.{AsksPacked}
use Rattle.axiom_instances.specs.FieldTypedRows.{AsksFieldTyped}
use Rattle.axiom_instances.specs.PackTypedRows.{AsksPackTyped}
use Rattle.axiom_instances.proofs.StructAxiomsNumberLemmas.{type_kept, type_stays}

abbrev Asking : Type 1
Asking = Axiom → List TermData → FormulaData → Type 0

only_weaker : (asks more : Asking) → ((name : Axiom) (ts : List TermData) (p : FormulaData) → asks name ts p → more name ts p) → (xs : List Triggered) → AreOnly asks xs → AreOnly more xs
only_weaker asks more w [] h = tt
only_weaker asks more w (x ∷ xs) h = (w x.name x.terms x.formula h.0, only_weaker asks more w xs h.1)

pub no_struct : (a : TypeData) → IsNoStructType a → IsNoStruct a
no_struct (StructType s args) h = absurd (h.none s args refl)
no_struct _ h = tt

no_greatest : (a : TypeData) (most : TermData) (s : StructId) (args : TypesData) → a ≡ StructType s args → greatest a ≡ Some most → ⊥
no_greatest a most s args e h = let none : greatest (StructType s args) ≡ Some most = sym (ap greatest e) ∙ h in absurd (cc)

module _ (shapes : List Shape) where
  module _ {xs ys zs : List Triggered} (a : TypeData) (t : TermData) (s : StructId) (args : TypesData) (e : a ≡ StructType s args) (packed : AreAll xs (AsksPacked shapes a t)) (fields : AreAll ys (AsksFieldTyped shapes a t)) (parts : AreAll zs (AsksPackTyped shapes a t)) where
    stands : {b : TypeData} {u : TermData} {name : Axiom} {ts : List TermData} {p : FormulaData} → AsksOfType shapes b u name ts p → b ≡ a → AsksOfType shapes a t name ts p → IsAmong (record { name = name; terms = ts; formula = p }) ((xs ++ ys) ++ zs)
    stands (ByStructTyped r us u h f) same own = among_left zs (among_left ys (packed.all _ _ _ (record { triggered = own; is_axiom = refl })))
    stands (ByFieldTyped r k u b h) same own = among_left zs (among_right xs (fields.all _ _ _ (record { triggered = own; is_axiom = refl })))
    stands (ByPackTyped r us ps h) same own = among_right (xs ++ ys) (parts.all _ _ _ (record { triggered = own; is_axiom = refl }))
    stands (ByRange b u most h) same own = absurd (no_greatest b most s args (same ∙ e) h)
    stands (BySigner u) same own = let both : SignerType ≡ StructType s args = same ∙ e in absurd (cc)
    stands (ByVector b u) same own = let both : VectorType b ≡ StructType s args = same ∙ e in absurd (cc)
    stands (ByBool u) same own = let both : BoolType ≡ StructType s args = same ∙ e in absurd (cc)

    struct_all : AreAll ((xs ++ ys) ++ zs) (AsksOfType shapes a t)
    struct_all = record {
      only = both_only (AsksOfType shapes a t) (xs ++ ys) zs (both_only (AsksOfType shapes a t) xs ys (only_weaker (AsksPacked shapes a t) (AsksOfType shapes a t) (λ name ts p h. h.triggered) xs packed.only) (only_weaker (AsksFieldTyped shapes a t) (AsksOfType shapes a t) (λ name ts p h. h.triggered) ys fields.only)) (only_weaker (AsksPackTyped shapes a t) (AsksOfType shapes a t) (λ name ts p h. h.triggered) zs parts.only);
      all = λ name ts p asks. stands asks refl asks;
    }

  module _ {ns ms ks ls : List Node} {ws xs ys zs : List TriggeredAxiom} {of term : ℕ} (number : IsTypeNumber ns of) (is_term : IsTermNumber ns term) where
    -- the concatenation of lists, each over the pool that results from the one before
    pub struct_lists : IsStructType ns of → ws ≡ [] → AddsAll ns ms ws xs (AsksPacked shapes (type_at ns of) (term_at ns term)) → AddsAll ms ks xs ys (AsksFieldTyped shapes (type_at ms of) (term_at ms term)) → AddsAll ks ls ys zs (AsksPackTyped shapes (type_at ks of) (term_at ks term)) → ListsAll ls zs (AsksOfType shapes (type_at ns of) (term_at ns term))
    struct_lists struct empty packed fields parts =
        let e = packed.adds.extends in
        let a = type_at ns of in
        let t = term_at ns term in
        let type_then : type_at ms of ≡ a = type_kept e number in
        let term_then : term_at ms term ≡ t = term_kept e is_term in
        let type_last : type_at ks of ≡ a = type_kept fields.adds.extends (type_stays e number) ∙ type_then in
        let term_last : term_at ks term ≡ t = term_kept fields.adds.extends (number_stays e is_term) ∙ term_then in
        let of_fields = subst (λ b. AreAll fields.instances (AsksFieldTyped shapes b t)) type_then (subst (λ u. AreAll fields.instances (AsksFieldTyped shapes (type_at ms of) u)) term_then fields.exactly) in
        let of_parts = subst (λ b. AreAll parts.instances (AsksPackTyped shapes b t)) type_last (subst (λ u. AreAll parts.instances (AsksPackTyped shapes (type_at ks of) u)) term_last parts.exactly) in
        lists_all empty (adds_then (adds_then packed.adds fields.adds) parts.adds) (struct_all a t struct.id struct.args struct.is packed.exactly of_fields of_parts)
