-- The whole list consists of the instances of the axiom on the types of fields that a struct type and a term trigger.
use Rattle.std.proofs.Common.{◌≡◌, ℕ, zero, suc, ◌<◌, ◌^◌, List, [], ◌∷◌, length, Option, Some, None, refl, sym, ap, ◌∙◌, subst, arith, append-nil}
use Rattle.std.specs.Prelude.{slice_get, slice_index_or}
use Rattle.base.specs.TypeData.{TypeData, TypesData, list_of_types}
use Rattle.fol.specs.declared.shapes.Shape.{Shape}
use Rattle.fol.specs.FormulaData.{TermData, FieldTerm, FormulaData, IsFormula, ImpliesFormula}
use Rattle.axioms.specs.declared.axiom.Axiom.{Axiom}
use Rattle.axioms.specs.declared.axiom.Axiom.TheVariants.{OfStruct}
use Rattle.axioms.specs.declared.axiom.StructAxiom.TheVariants.{FieldTyped}
use Rattle.axioms.specs.Fields.{IsStruct, HasFieldType, IsPut, shape_of}
use Rattle.term_pool.specs.Pools.{Extends}
use Rattle.term_pool.specs.declared.node.Node.{Node}
use Rattle.term_pool.proofs.GrowthLemmas.{extends_then}
use Rattle.axiom_instances.specs.FieldTypes.{HasNoShape, IsPutResult, ArePutResults, NoResults, MoreResults, AreFieldTypes}
use Rattle.axiom_instances.specs.declared.triggered.TriggeredAxiom.{TriggeredAxiom}
use Rattle.axiom_instances.specs.Asks.{AsksOfType, ByStructTyped, ByPackTyped, ByFieldTyped, ByRange, BySigner, ByVector, ByBool}
use Rattle.axiom_instances.specs.Lists.{Triggered, Adds, NoneTriggered, IsAmong, IsHere, AreOnly, AreAll}
use Rattle.axiom_instances.specs.Numbers.{type_at}
use Rattle.axiom_instances.specs.StructRows.{HasFewFields, upto}
use Rattle.axiom_instances.proofs.StructLemmas.{upto_only, upto_among}
use Rattle.axiom_instances.proofs.FieldLemmas.{few_here}
use Rattle.axiom_instances.specs.FieldTypedRows.{AsksFieldTyped, IsFound, AreFound, field_type_row, found_rows, typed_rows}
use Rattle.axiom_instances.proofs.StructAxiomsNumberLemmas.{type_stays, type_kept}
use Rattle.axiom_instances.proofs.OnePut.{one_put}

-- ---- lists that begin in an earlier pool

pub adds_after : {ns ms ks : List Node} {xs ys : List TriggeredAxiom} {as' : List Triggered} → Extends ns ms → Adds ms ks xs ys as' → Adds ns ks xs ys as'
adds_after e h = record { extends = extends_then e h.extends; more = h.more; is = h.is; are = h.are }

pub adds_grown : {ns ms : List Node} (xs : List TriggeredAxiom) → Extends ns ms → Adds ns ms xs xs []
adds_grown xs e = record { extends = e; more = []; is = sym (append-nil xs); are = NoneTriggered }

-- ---- types that are found

pub found_stays : {ns ms : List Node} (found : Option ℕ) → Extends ns ms → IsFound ns found → IsFound ms found
found_stays None e h = tt
found_stays (Some n) e h = type_stays e h

pub rows_kept : {ns ms : List Node} (s : TypeData) (t : TermData) (k : ℕ) (found : Option ℕ) → Extends ns ms → IsFound ns found → found_rows ms s t k found ≡ found_rows ns s t k found
rows_kept s t k None e h = refl
rows_kept s t k (Some n) e h = ap (λ a. field_type_row s t k a ∷ []) (type_kept e h)

-- ---- the results at a field

pub record ResultAt (ns : List Node) (args fields : List TypeData) (founds : List (Option ℕ)) (k : ℕ) : Type 0 where
  pub field : TypeData
  pub found : slice_get fields k ≡ Some field
  pub result : IsPutResult ns args field (slice_index_or founds k None)

pub result_at : {ns : List Node} {args fields : List TypeData} {founds : List (Option ℕ)} (k : ℕ) → k < length fields → ArePutResults ns args fields founds → ResultAt ns args fields founds k
result_at k w NoResults = absurd (omega arith)
result_at zero w (MoreResults f o fs os h r) = record { field = f; found = refl; result = h }
result_at (suc k) w (MoreResults f o fs os h r) = let rest = result_at k (omega arith) r in record { field = rest.field; found = rest.found; result = rest.result }

pub results_length : {ns : List Node} {args fields : List TypeData} {founds : List (Option ℕ)} → ArePutResults ns args fields founds → length founds ≡ length fields
results_length NoResults = refl
results_length (MoreResults f o fs os h r) = ap suc (results_length r)

found_of : (ns : List Node) (args : List TypeData) (field : TypeData) (o : Option ℕ) → IsPutResult ns args field o → IsFound ns o
found_of ns args field None h = tt
found_of ns args field (Some n) h = h.number

found_at : {ns : List Node} {args fields : List TypeData} {founds : List (Option ℕ)} → ArePutResults ns args fields founds → (k : ℕ) → IsFound ns (slice_index_or founds k None)
found_at NoResults zero = tt
found_at NoResults (suc k) = tt
found_at {ns} {args} (MoreResults f o fs os h r) zero = found_of ns args f o h
found_at (MoreResults f o fs os h r) (suc k) = found_at r k

pub all_found : {ns : List Node} {args fields : List TypeData} {founds : List (Option ℕ)} → ArePutResults ns args fields founds → AreFound ns founds
all_found h = record { each = found_at h }

-- ---- the triggered instances

data FieldCase (shapes : List Shape) (a : TypeData) (t : TermData) : List TermData → FormulaData → Type 0 where
  TheField : (k : ℕ) (b : TypeData) → HasFieldType shapes a k b → FieldCase shapes a t (t ∷ []) (ImpliesFormula (IsFormula a t) (IsFormula b (FieldTerm a k t)))

record FieldType (args fields : List TypeData) (k : ℕ) (b : TypeData) : Type 0 where
  field : TypeData
  found : slice_get fields k ≡ Some field
  put : IsPut args field b

module _ (shapes : List Shape) where
  of_field : {a : TypeData} {t : TermData} {name : Axiom} {ts : List TermData} {p : FormulaData} → AsksOfType shapes a t name ts p → name ≡ OfStruct FieldTyped → FieldCase shapes a t ts p
  of_field (ByFieldTyped s k t b h) e = TheField k b h
  of_field (ByStructTyped s us t h f) e = absurd (cc)
  of_field (ByPackTyped s us ps h) e = absurd (cc)
  of_field (ByRange a t most h) e = absurd (cc)
  of_field (BySigner t) e = absurd (cc)
  of_field (ByVector a v) e = absurd (cc)
  of_field (ByBool t) e = absurd (cc)

  -- the type of a field is that of the one shape
  field_type : (a : TypeData) (k : ℕ) (b : TypeData) (shape : Shape) (args : TypesData) → IsStruct shapes a shape args → HasFieldType shapes a k b → FieldType (list_of_types args) (list_of_types shape.fields) k b
  unfolding HasFieldType
  field_type a k b shape args s h =
      let structs = sym s.1 ∙ h.3.1 in
      let same-name : s.0 ≡ h.3.0 = cc in
      let same-args : args ≡ h.1 = cc in
      let shapes-are = sym s.2 ∙ ap (shape_of shapes) same-name ∙ h.3.2 in
      let same-shape : shape ≡ h.0 = cc in
      record {
        field = h.2;
        found = ap (λ (x : Shape). slice_get (list_of_types x.fields) k) same-shape ∙ h.4;
        put = subst (λ ts. IsPut (list_of_types ts) h.2 b) (sym same-args) h.5;
      }

  a_field_type : (a : TypeData) (k : ℕ) (b : TypeData) (shape : Shape) (args : TypesData) (f : TypeData) → IsStruct shapes a shape args → slice_get (list_of_types shape.fields) k ≡ Some f → IsPut (list_of_types args) f b → HasFieldType shapes a k b
  unfolding HasFieldType
  a_field_type a k b shape args f s e put = (shape, args, f, s, e, put)

  module _ (ns : List Node) (a : TypeData) (t : TermData) (shape : Shape) (args : TypesData) (s : IsStruct shapes a shape args) where
    row_asks : (k : ℕ) (f : TypeData) (o : Option ℕ) → slice_get (list_of_types shape.fields) k ≡ Some f → IsPutResult ns (list_of_types args) f o → AreOnly (AsksFieldTyped shapes a t) (found_rows ns a t k o)
    row_asks k f None e h = tt
    row_asks k f (Some n) e h = (record { triggered = ByFieldTyped a k t (type_at ns n) (a_field_type a k (type_at ns n) shape args f s e h.put); is_axiom = refl }, tt)

    row_stands : (k : ℕ) (f b : TypeData) (o : Option ℕ) → IsPutResult ns (list_of_types args) f o → IsPut (list_of_types args) f b → IsAmong (field_type_row a t k b) (found_rows ns a t k o)
    row_stands k f b None h put = absurd (h.none b put)
    row_stands k f b (Some n) h put =
        subst (λ c. IsAmong (field_type_row a t k c) (field_type_row a t k (type_at ns n) ∷ [])) (one_put (list_of_types args) f (type_at ns n) b h.put put) (IsHere [])

    within_fields : (fields : List TypeData) (k : ℕ) (f : TypeData) → slice_get fields k ≡ Some f → k < length fields
    within_fields [] zero f e = absurd (cc)
    within_fields [] (suc k) f e = absurd (cc)
    within_fields (x ∷ fields) zero f e = omega arith
    within_fields (x ∷ fields) (suc k) f e = let w = within_fields fields k f e in omega (arith, w)

    field_stands : (founds : List (Option ℕ)) → ArePutResults ns (list_of_types args) (list_of_types shape.fields) founds → {ts : List TermData} {p : FormulaData} → FieldCase shapes a t ts p → IsAmong (record { name = OfStruct FieldTyped; terms = ts; formula = p }) (upto (typed_rows ns a t founds) (length founds))
    field_stands founds results (TheField k b h) =
        let ours = field_type a k b shape args s h in
        let w = within_fields (list_of_types shape.fields) k ours.field ours.found in
        let at = result_at k w results in
        let both : Some at.field ≡ Some ours.field = sym at.found ∙ ours.found in
        let same : at.field ≡ ours.field = cc in
        upto_among (typed_rows ns a t founds) (length founds) k (let l = results_length results in omega (arith, l, w))
        (row_stands k at.field b (slice_index_or founds k None) at.result (subst (λ f. IsPut (list_of_types args) f b) (sym same) ours.put))

    pub fields_all : (founds : List (Option ℕ)) → ArePutResults ns (list_of_types args) (list_of_types shape.fields) founds → AreAll (upto (typed_rows ns a t founds) (length founds)) (AsksFieldTyped shapes a t)
    fields_all founds results = record {
      only = upto_only (AsksFieldTyped shapes a t) (typed_rows ns a t founds) (length founds) (λ k w. (let at = result_at k (let l = results_length results in omega (arith, l, w)) results in row_asks k at.field (slice_index_or founds k None) at.found at.result));
      all = λ name ts p asks. subst (λ x. IsAmong (record { name = x; terms = ts; formula = p }) (upto (typed_rows ns a t founds) (length founds))) (sym asks.is_axiom) (field_stands founds results (of_field asks.triggered asks.is_axiom));
    }

  no_type : (a : TypeData) (k : ℕ) (b : TypeData) → HasNoShape shapes a → HasFieldType shapes a k b → ⊥
  unfolding HasFieldType
  no_type a k b none h = none.none h.0 h.1 h.3

  pub no_fields : (a : TypeData) (t : TermData) → HasNoShape shapes a → AreAll [] (AsksFieldTyped shapes a t)
  no_fields a t none = record { only = tt; all = λ name ts p asks. go (of_field asks.triggered asks.is_axiom) }
    where
      go : {name : Axiom} {ts : List TermData} {p : FormulaData} → FieldCase shapes a t ts p → IsAmong (record { name = name; terms = ts; formula = p }) []
      go (TheField k b h) = absurd (no_type a k b none h)

  pub few_types : {ns : List Node} (a : TypeData) (founds : List (Option ℕ)) → HasFewFields shapes → AreFieldTypes ns shapes a founds → length founds < 2 ^ 32
  few_types a founds few h =
      let w = few_here shapes a h.shape few (h.args, h.is_struct) in let l = results_length h.results in omega (arith, l, w)
