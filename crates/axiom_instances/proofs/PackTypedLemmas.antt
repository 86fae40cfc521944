-- The whole list consists of the instances of the axiom on the types of the parts of a pack that a type and a term
-- trigger.
use Rattle.std.proofs.Common.{◌≡◌, ◌≢◌, ℕ, zero, suc, ◌+◌, ◌<◌, List, [], ◌∷◌, length, map, get_or, Option, Some, None, refl, sym, ap, ◌∙◌, subst, arith}
use Rattle.std.specs.Prelude.{slice_index_or}
use Rattle.std.proofs.lemmas.Option.{get_or_from_slice_get}
use Rattle.base.specs.TypeData.{TypeData, TypesData, BoolType, list_of_types}
use Rattle.fol.specs.declared.shapes.Shape.{Shape}
use Rattle.fol.specs.FormulaData.{TermData, TermsData, NoTerms, MoreTerms, NothingTerm, PackTerm, FormulaData, IsFormula, IffFormula, terms_of, list_of_terms, terms_of_injective, formulas_of}
use Rattle.axioms.specs.declared.axiom.Axiom.{Axiom}
use Rattle.axioms.specs.declared.axiom.Axiom.TheVariants.{OfStruct}
use Rattle.axioms.specs.declared.axiom.StructAxiom.TheVariants.{PackTyped}
use Rattle.axioms.specs.Fields.{IsStruct, IsPut, shape_of}
use Rattle.axioms.specs.Structs.{AreFieldsTyped, ArePartsTyped}
use Rattle.certificates.specs.Table.{all_of}
use Rattle.term_pool.specs.Items.{TermItem}
use Rattle.term_pool.specs.Pools.{IsItem}
use Rattle.term_pool.specs.declared.node.Node.{Node}
use Rattle.axiom_instances.specs.FieldTypes.{HasNoShape, IsPutResult, ArePutResults}
use Rattle.axiom_instances.specs.Asks.{AsksOfType, ByStructTyped, ByPackTyped, ByFieldTyped, ByRange, BySigner, ByVector, ByBool}
use Rattle.axiom_instances.specs.Lists.{IsAmong, IsHere, AreAll}
use Rattle.axiom_instances.specs.Templates.{AreItems, NoItems, MoreItems}
use Rattle.axiom_instances.proofs.NumberLemmas.{term_is, term_number}
use Rattle.axiom_instances.proofs.FieldLemmas.{parts_length}
use Rattle.axiom_instances.specs.PackTypedRows.{AsksPackTyped, IsNoPack, AreTermNumbers, LacksType, AreAllFound, typed_from, found_type, found_types, terms_numbered, parts_typed, pack_typed_row}
use Rattle.axiom_instances.proofs.OnePut.{one_put}
use Rattle.axiom_instances.proofs.FieldTypedLemmas.{result_at, results_length}

-- ---- formulas that state the types of terms

typed_length : (f : ℕ → TypeData) (g : ℕ → TermData) (k n : ℕ) → length (typed_from f g k n) ≡ n
typed_length f g k zero = refl
typed_length f g k (suc n) = ap suc (typed_length f g (suc k) n)

typed_at : (f : ℕ → TypeData) (g : ℕ → TermData) (k n j : ℕ) (d : FormulaData) → j < n → get_or (typed_from f g k n) j d ≡ IsFormula (f (k + j)) (g (k + j))
typed_at f g k zero j d w = absurd (omega arith)
typed_at f g k (suc n) zero d w = let e : k ≡ k + 0 = omega arith in ap (λ i. IsFormula (f i) (g i)) e
typed_at f g k (suc n) (suc j) d w =
    let e : suc k + j ≡ k + suc j = omega arith in typed_at f g (suc k) n j d (omega arith) ∙ ap (λ i. IsFormula (f i) (g i)) e

typed_only : (f : ℕ → TypeData) (g : ℕ → TermData) (k : ℕ) (ps : List FormulaData) → ((j : ℕ) (d : FormulaData) → j < length ps → get_or ps j d ≡ IsFormula (f (k + j)) (g (k + j))) → ps ≡ typed_from f g k (length ps)
typed_only f g k [] h = refl
typed_only f g k (p ∷ ps) h =
    let e : k + 0 ≡ k = omega arith in
    let first : p ≡ IsFormula (f k) (g k) = h 0 p (omega arith) ∙ ap (λ i. IsFormula (f i) (g i)) e in
    let rest : ps ≡ typed_from f g (suc k) (length ps) = typed_only f g (suc k) ps (λ j d w. h (suc j) d (omega arith) ∙ ap (λ i. IsFormula (f i) (g i)) (let c : k + suc j ≡ suc k + j = omega arith in c)) in
    λ i. first i ∷ rest i

-- ---- parts by their numbers

terms_again : (ts : TermsData) → terms_of (list_of_terms ts) ≡ ts
terms_again NoTerms = refl
terms_again (MoreTerms t ts) = ap (MoreTerms t) (terms_again ts)

part_at : {ns : List Node} {is : List ℕ} (us : List TermData) (k : ℕ) (d : TermData) → AreItems ns is (map TermItem us) → k < length us → IsItem ns (get_or is k 0) (TermItem (get_or us k d))
part_at [] k d NoItems w = absurd (omega arith)
part_at (u ∷ us) zero d (MoreItems i x is xs h r) w = h
part_at (u ∷ us) (suc k) d (MoreItems i x is xs h r) w = part_at us k d r (omega arith)

pub are_terms : {ns : List Node} {is : List ℕ} (us : List TermData) → AreItems ns is (map TermItem us) → AreTermNumbers ns is
are_terms us h = record { each = λ k w. term_number (part_at us k NothingTerm h (let l = parts_length us h in omega (arith, l, w))) }

-- ---- the type that is found for a field

put_of : (ns : List Node) (args : List TypeData) (field : TypeData) (o : Option ℕ) → o ≢ None → IsPutResult ns args field o → IsPut args field (found_type ns o)
put_of ns args field None d h = absurd (d refl)
put_of ns args field (Some n) d h = h.put

module _ (ns : List Node) (args fields : List TypeData) (founds : List (Option ℕ)) (results : ArePutResults ns args fields founds) where
  put_at : (k : ℕ) (d : TypeData) → k < length fields → slice_index_or founds k None ≢ None → IsPut args (get_or fields k d) (found_types ns founds k)
  put_at k d w some =
      let at = result_at k w results in
      subst (λ f. IsPut args f (found_types ns founds k)) (sym (get_or_from_slice_get fields k at.field d at.found)) (put_of ns args at.field (slice_index_or founds k None) some at.result)

  lacks_put : (k : ℕ) (d b : TypeData) → k < length fields → slice_index_or founds k None ≡ None → IsPut args (get_or fields k d) b → ⊥
  lacks_put k d b w e put =
      let at = result_at k w results in
      let none : IsPutResult ns args at.field None = subst (IsPutResult ns args at.field) e at.result in
      none.none b (subst (λ f. IsPut args f b) (get_or_from_slice_get fields k at.field d at.found) put)

  module _ (us : List TermData) (numbers : List ℕ) (are : AreItems ns numbers (map TermItem us)) (many : length founds ≡ length numbers) where
    abbrev f : ℕ → TypeData
    f = found_types ns founds

    abbrev g : ℕ → TermData
    g = terms_numbered ns numbers

    as_many : length us ≡ length fields
    as_many = let l = parts_length us are in let r = results_length results in omega (arith, l, r, many)

    fields_typed : AreAllFound founds → AreFieldsTyped args fields us (parts_typed ns founds numbers)
    unfolding AreFieldsTyped
    fields_typed all = (as_many, typed_length f g 0 (length numbers) ∙ sym many ∙ results_length results, typed)
      where
        typed : (k : ℕ) (d : TypeData) (t : TermData) (p : FormulaData) → k < length fields → (a : TypeData) × IsPut args (slice_index_or fields k d) a × (slice_index_or (parts_typed ns founds numbers) k p ≡ IsFormula a (slice_index_or us k t))
        typed k d t p w =
            let r = results_length results in
            let part = part_at us k t are (let l = as_many in omega (arith, l, w)) in
            let here : 0 + k ≡ k = omega arith in
            (f k, put_at k d w (all.each k (omega (arith, r, w))), typed_at f g 0 (length numbers) k p (omega (arith, r, w, many)) ∙ ap (λ i. IsFormula (f i) (g i)) here ∙ ap (IsFormula (f k)) (term_is part))

    one_typed : (j : ℕ) (p : FormulaData) → j < length fields → ((a : TypeData) × IsPut args (get_or fields j BoolType) a × (p ≡ IsFormula a (get_or us j NothingTerm))) → (o : Option ℕ) → slice_index_or founds j None ≡ o → p ≡ IsFormula (f j) (g j)
    one_typed j p w said None e = absurd (lacks_put j BoolType said.0 w e said.1)
    one_typed j p w said (Some n) e =
        let some : slice_index_or founds j None ≢ None = λ z. (let both : Some n ≡ None = sym e ∙ z in absurd (cc)) in
        let part = part_at us j NothingTerm are (let l = as_many in omega (arith, l, w)) in
        said.2 ∙ (λ i. IsFormula (one_put args (get_or fields j BoolType) said.0 (f j) said.1 (put_at j BoolType w some) i) (sym (term_is part) i))

    typed_all : (ps : List FormulaData) → AreFieldsTyped args fields us ps → ps ≡ parts_typed ns founds numbers
    unfolding AreFieldsTyped
    typed_all ps h =
        let as_fields = h.1 in
        let all = typed_only f g 0 ps (λ j d w. (let here : j ≡ 0 + j = omega arith in one_typed j (get_or ps j d) (omega (arith, as_fields, w)) (h.2 j BoolType NothingTerm d (omega (arith, as_fields, w))) (slice_index_or founds j None) refl ∙ ap (λ i. IsFormula (f i) (g i)) here)) in
        all ∙ ap (typed_from f g 0) (h.1 ∙ sym (results_length results) ∙ many)

    lacks_typed : (ps : List FormulaData) → LacksType founds → AreFieldsTyped args fields us ps → ⊥
    unfolding AreFieldsTyped
    lacks_typed ps lack h =
        let r = results_length results in
        let w = lack.within in
        let here : lack.position < length fields = omega (arith, r, w) in
        let said = h.2 lack.position BoolType NothingTerm (IsFormula BoolType NothingTerm) here in
        lacks_put lack.position BoolType said.0 here lack.lacks said.1

other_count : (args fields : List TypeData) (us : List TermData) (ps : List FormulaData) → (length us ≡ length fields → ⊥) → AreFieldsTyped args fields us ps → ⊥
unfolding AreFieldsTyped
other_count args fields us ps d h = d h.0

-- ---- the triggered instances

data PackTypedCase (shapes : List Shape) (a : TypeData) (t : TermData) : List TermData → FormulaData → Type 0 where
  TheParts : (us : List TermData) (ps : List FormulaData) → t ≡ PackTerm a (terms_of us) → ArePartsTyped shapes a us ps → PackTypedCase shapes a t (t ∷ []) (IffFormula (IsFormula a t) (all_of ps))

module _ (shapes : List Shape) where
  of_pack_typed : {a : TypeData} {t : TermData} {name : Axiom} {ts : List TermData} {p : FormulaData} → AsksOfType shapes a t name ts p → name ≡ OfStruct PackTyped → PackTypedCase shapes a t ts p
  of_pack_typed (ByPackTyped s us ps h) e = TheParts us ps refl h
  of_pack_typed (ByStructTyped s us t h f) e = absurd (cc)
  of_pack_typed (ByFieldTyped s k t a h) e = absurd (cc)
  of_pack_typed (ByRange a t most h) e = absurd (cc)
  of_pack_typed (BySigner t) e = absurd (cc)
  of_pack_typed (ByVector a v) e = absurd (cc)
  of_pack_typed (ByBool t) e = absurd (cc)

  -- the parts have the types of the one shape
  of_one_shape : (a : TypeData) (us : List TermData) (ps : List FormulaData) (shape : Shape) (args : TypesData) → IsStruct shapes a shape args → ArePartsTyped shapes a us ps → AreFieldsTyped (list_of_types args) (list_of_types shape.fields) us ps
  unfolding ArePartsTyped
  of_one_shape a us ps shape args s h =
      let structs = sym s.1 ∙ h.2.1 in
      let same-name : s.0 ≡ h.2.0 = cc in
      let same-args : args ≡ h.1 = cc in
      let shapes-are = sym s.2 ∙ ap (shape_of shapes) same-name ∙ h.2.2 in
      let same-shape : shape ≡ h.0 = cc in
      subst (λ ts. AreFieldsTyped (list_of_types ts) (list_of_types shape.fields) us ps) (sym same-args) (subst (λ (x : Shape). AreFieldsTyped (list_of_types h.1) (list_of_types x.fields) us ps) (sym same-shape) h.3)

  a_parts_typed : (a : TypeData) (us : List TermData) (ps : List FormulaData) (shape : Shape) (args : TypesData) → IsStruct shapes a shape args → AreFieldsTyped (list_of_types args) (list_of_types shape.fields) us ps → ArePartsTyped shapes a us ps
  unfolding ArePartsTyped
  a_parts_typed a us ps shape args s h = (shape, args, s, h)

  -- there is no instance if each leads to a contradiction
  none_triggered : (a : TypeData) (t : TermData) → ((us : List TermData) (ps : List FormulaData) → t ≡ PackTerm a (terms_of us) → ArePartsTyped shapes a us ps → ⊥) → AreAll [] (AsksPackTyped shapes a t)
  none_triggered a t d = record { only = tt; all = λ name ts p asks. go (of_pack_typed asks.triggered asks.is_axiom) }
    where
      go : {name : Axiom} {ts : List TermData} {p : FormulaData} → PackTypedCase shapes a t ts p → IsAmong (record { name = name; terms = ts; formula = p }) []
      go (TheParts us ps e h) = absurd (d us ps e h)

  pub no_pack_typed : (a : TypeData) (t : TermData) → IsNoPack a t → AreAll [] (AsksPackTyped shapes a t)
  no_pack_typed a t none = none_triggered a t (λ us ps e h. none.none (terms_of us) e)

  no_shape_typed : (a : TypeData) (us : List TermData) (ps : List FormulaData) → HasNoShape shapes a → ArePartsTyped shapes a us ps → ⊥
  unfolding ArePartsTyped
  no_shape_typed a us ps none h = none.none h.0 h.1 h.2

  pub none_without_shape : (a : TypeData) (t : TermData) → HasNoShape shapes a → AreAll [] (AsksPackTyped shapes a t)
  none_without_shape a t none = none_triggered a t (λ us ps e h. no_shape_typed a us ps none h)

  module _ (ns : List Node) (a : TypeData) (t : TermData) (parts : TermsData) (is : t ≡ PackTerm a parts) (shape : Shape) (args : TypesData) (s : IsStruct shapes a shape args) (founds : List (Option ℕ)) (results : ArePutResults ns (list_of_types args) (list_of_types shape.fields) founds) (numbers : List ℕ) (are : AreItems ns numbers (map TermItem (list_of_terms parts))) where
    abbrev us : List TermData
    us = list_of_terms parts

    the_parts : (vs : List TermData) → t ≡ PackTerm a (terms_of vs) → vs ≡ us
    the_parts vs e =
        let both : PackTerm a (terms_of vs) ≡ PackTerm a (terms_of us) = sym e ∙ is ∙ ap (PackTerm a) (sym (terms_again parts)) in
        let same : terms_of vs ≡ terms_of us = cc in
        terms_of_injective vs us same

    of_fields : (vs : List TermData) (ps : List FormulaData) → t ≡ PackTerm a (terms_of vs) → ArePartsTyped shapes a vs ps → AreFieldsTyped (list_of_types args) (list_of_types shape.fields) us ps
    of_fields vs ps e h =
        subst (λ ws. AreFieldsTyped (list_of_types args) (list_of_types shape.fields) ws ps) (the_parts vs e) (of_one_shape a vs ps shape args s h)

    pub none_of_count : (length founds ≡ length numbers → ⊥) → AreAll [] (AsksPackTyped shapes a t)
    none_of_count d =
        none_triggered a t (λ vs ps e h. other_count (list_of_types args) (list_of_types shape.fields) us ps (λ l. d (results_length results ∙ sym l ∙ sym (parts_length us are))) (of_fields vs ps e h))

    module _ (many : length founds ≡ length numbers) where
      pub none_lacking : LacksType founds → AreAll [] (AsksPackTyped shapes a t)
      none_lacking lack =
          none_triggered a t (λ vs ps e h. lacks_typed ns (list_of_types args) (list_of_types shape.fields) founds results us numbers are many ps lack (of_fields vs ps e h))

      row_stands : {ts : List TermData} {p : FormulaData} → PackTypedCase shapes a t ts p → IsAmong (record { name = OfStruct PackTyped; terms = ts; formula = p }) (pack_typed_row a t (formulas_of (parts_typed ns founds numbers)) ∷ [])
      row_stands (TheParts vs ps e h) =
          let same = typed_all ns (list_of_types args) (list_of_types shape.fields) founds results us numbers are many ps (of_fields vs ps e h) in
          subst (λ qs. IsAmong (record { name = OfStruct PackTyped; terms = t ∷ []; formula = IffFormula (IsFormula a t) (all_of qs) }) (pack_typed_row a t (formulas_of (parts_typed ns founds numbers)) ∷ [])) (sym same) (IsHere [])

      row_asks : AreAllFound founds → AsksOfType shapes a t (OfStruct PackTyped) (t ∷ []) (IffFormula (IsFormula a t) (all_of (parts_typed ns founds numbers)))
      row_asks all =
          let ps = parts_typed ns founds numbers in
          let typed = a_parts_typed a us ps shape args s (fields_typed ns (list_of_types args) (list_of_types shape.fields) founds results us numbers are many all) in
          let whole : PackTerm a (terms_of us) ≡ t = ap (PackTerm a) (terms_again parts) ∙ sym is in
          subst (λ x. AsksOfType shapes a x (OfStruct PackTyped) (x ∷ []) (IffFormula (IsFormula a x) (all_of ps))) whole (ByPackTyped a us ps typed)

      pub parts_all : AreAllFound founds → AreAll (pack_typed_row a t (formulas_of (parts_typed ns founds numbers)) ∷ []) (AsksPackTyped shapes a t)
      parts_all all = record {
        only = (record { triggered = row_asks all; is_axiom = refl }, tt);
        all = λ name ts p asks. subst (λ x. IsAmong (record { name = x; terms = ts; formula = p }) (pack_typed_row a t (formulas_of (parts_typed ns founds numbers)) ∷ [])) (sym asks.is_axiom) (row_stands (of_pack_typed asks.triggered asks.is_axiom));
      }
