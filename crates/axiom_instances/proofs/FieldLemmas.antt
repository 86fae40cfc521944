-- The parts of packs by their numbers, and the loops over fields.
use Rattle.std.proofs.Common.{◌≡◌, ℕ, zero, suc, ◌<◌, ◌^◌, Bool, true, false, List, [], ◌∷◌, ◌++◌, length, map, get_or, Some, refl, sym, ap, ◌∙◌, subst, arith, append_assoc, append-nil}
use Rattle.std.specs.Prelude.{All, if◌then◌else◌}
use Rattle.std.proofs.lemmas.List.{map-append}
use Rattle.base.specs.TypeData.{TypeData, TypesData, list_of_types}
use Rattle.base.specs.declared.types.StructId.{StructId}
use Rattle.fol.specs.declared.shapes.Shape.{Shape}
use Rattle.fol.specs.TypedValue.{same_struct}
use Rattle.fol.specs.FormulaData.{TermData, TermsData, NoTerms, MoreTerms, NothingTerm, PackTerm, terms_of, list_of_terms}
use Rattle.axioms.specs.Fields.{HasFields, IsStruct, shape_of}
use Rattle.term_pool.specs.Items.{Item, TermItem, term_in}
use Rattle.term_pool.specs.Pools.{IsItem}
use Rattle.term_pool.specs.declared.node.Node.{Node}
use Rattle.axiom_instances.specs.Asks.{AsksOfTerm}
use Rattle.axiom_instances.specs.Lists.{AreAll}
use Rattle.axiom_instances.specs.Numbers.{IsPack, term_at, terms_at, type_at}
use Rattle.axiom_instances.specs.StructRows.{HasFewFields, HasNoFields, IsNextPart, upto, field_rows}
use Rattle.axiom_instances.specs.Templates.{AreItems, NoItems, MoreItems}
use Rattle.axiom_instances.proofs.TemplateLemmas.{items_more}
use Rattle.axiom_instances.proofs.StructLemmas.{pack_all, pack_none}

-- ---- lists of terms

terms_again : (ts : TermsData) → terms_of (list_of_terms ts) ≡ ts
terms_again NoTerms = refl
terms_again (MoreTerms t ts) = ap (MoreTerms t) (terms_again ts)

pub items_length : {ns : List Node} {is : List ℕ} {xs : List Item} → AreItems ns is xs → length is ≡ length xs
items_length NoItems = refl
items_length (MoreItems i x is xs h r) = ap suc (items_length r)

terms_length : (us : List TermData) → length (map TermItem us) ≡ length us
terms_length [] = refl
terms_length (u ∷ us) = ap suc (terms_length us)

pub parts_length : {ns : List Node} {is : List ℕ} (us : List TermData) → AreItems ns is (map TermItem us) → length is ≡ length us
parts_length us h = items_length h ∙ terms_length us

pub part_here : {ns : List Node} {is : List ℕ} (us : List TermData) (k : ℕ) → AreItems ns is (map TermItem us) → k < length is → IsItem ns (get_or is k 0) (TermItem (get_or us k NothingTerm))
part_here [] k NoItems w = absurd (omega arith)
part_here (u ∷ us) zero (MoreItems i x is xs h r) w = h
part_here (u ∷ us) (suc k) (MoreItems i x is xs h r) w = part_here us k r (omega arith)

pub record PartsSoFar (ns : List Node) (is : List ℕ) (whole list : ℕ) : Type 0 where
  pub done : List TermData
  pub are : AreItems ns is (map TermItem done)
  pub all : done ++ list_of_terms (terms_at ns list) ≡ list_of_terms (terms_at ns whole)

pub parts_first : (ns : List Node) (parts : ℕ) → PartsSoFar ns [] parts parts
parts_first ns parts = record { done = []; are = NoItems; all = refl }

pub parts_next : {ns : List Node} {is : List ℕ} {whole list : ℕ} {p : ℕ × ℕ} → PartsSoFar ns is whole list → IsNextPart ns list p → PartsSoFar ns (is ++ p.0 ∷ []) whole p.1
parts_next {ns} {is} {whole} {list} {p} h n =
    let t = term_at ns p.0 in
    record {
      done = h.done ++ t ∷ [];
      are = subst (AreItems ns (is ++ p.0 ∷ [])) (sym (map-append TermItem h.done (t ∷ []))) (items_more h.are n.part);
      all = append_assoc h.done (t ∷ []) (list_of_terms (terms_at ns p.1)) ∙ ap (λ ts. h.done ++ list_of_terms ts) (sym n.is) ∙ h.all;
    }

pub parts_last : {ns : List Node} {is : List ℕ} {whole list : ℕ} → PartsSoFar ns is whole list → terms_at ns list ≡ NoTerms → AreItems ns is (map TermItem (list_of_terms (terms_at ns whole)))
parts_last {ns} {is} h e =
    let whole-is = sym (append-nil h.done) ∙ ap (λ ts. h.done ++ list_of_terms ts) (sym e) ∙ h.all in
    subst (λ us. AreItems ns is (map TermItem us)) whole-is h.are

-- ---- shapes

few_step : (x : Shape) (xs : List Shape) (s : StructId) (shape : Shape) (b : Bool) → same_struct x.name s ≡ b → length (list_of_types x.fields) < 2 ^ 32 → (shape_of xs s ≡ Some shape → length (list_of_types shape.fields) < 2 ^ 32) → shape_of (x ∷ xs) s ≡ Some shape → length (list_of_types shape.fields) < 2 ^ 32
few_step x xs s shape true f h r e =
    let g : Some x ≡ Some shape = sym (ap (λ (b : Bool). if b then Some x else shape_of xs s) f) ∙ e in
    let same : x ≡ shape = cc in
    subst (λ (y : Shape). length (list_of_types y.fields) < 2 ^ 32) same h
few_step x xs s shape false f h r e = r (sym (ap (λ (b : Bool). if b then Some x else shape_of xs s) f) ∙ e)

few_fields : (shapes : List Shape) (s : StructId) (shape : Shape) → All (λ (x : Shape). length (list_of_types x.fields) < 2 ^ 32) shapes → shape_of shapes s ≡ Some shape → length (list_of_types shape.fields) < 2 ^ 32
few_fields [] s shape h e = absurd (cc)
few_fields (x ∷ xs) s shape h e =
    few_step x xs s shape (same_struct x.name s) refl (h zero x (omega arith)) (λ f. few_fields xs s shape (λ k d w. h (suc k) d (omega arith)) f) e

pub few_here : (shapes : List Shape) (a : TypeData) (shape : Shape) → HasFewFields shapes → ((args : TypesData) × IsStruct shapes a shape args) → length (list_of_types shape.fields) < 2 ^ 32
few_here shapes a shape h (args, (s, e, f, n)) = few_fields shapes s shape h.few f

pub fields_here : (shapes : List Shape) (a : TypeData) (shape : Shape) (n : ℕ) → ((args : TypesData) × IsStruct shapes a shape args) → length (list_of_types shape.fields) ≡ n → HasFields shapes a n
unfolding HasFields
fields_here shapes a shape n (args, h) e = (shape, args, h, e)

pub no_fields_here : (shapes : List Shape) (a : TypeData) → ((shape : Shape) (args : TypesData) → IsStruct shapes a shape args → ⊥) → HasNoFields shapes a
unfolding HasFields
no_fields_here shapes a d = record { none = λ n h. d h.0 h.1 h.2 }

-- ---- packs

pub pack_here : (shapes : List Shape) {ns : List Node} {term of parts : ℕ} → IsPack ns term of parts → (n : ℕ) → HasFields shapes (type_at ns of) n → n ≡ length (list_of_terms (terms_at ns parts)) → AreAll (upto (field_rows (type_at ns of) (term_at ns term) (list_of_terms (terms_at ns parts))) n) (AsksOfTerm shapes (term_at ns term))
pack_here shapes {ns} {term} {of} {parts} h n f e =
    let s = type_at ns of in
    let us = list_of_terms (terms_at ns parts) in
    let whole : term_at ns term ≡ PackTerm s (terms_of us) = ap term_in h.whole.is ∙ ap (PackTerm s) (sym (terms_again (terms_at ns parts))) in
    subst (λ p. AreAll (upto (field_rows s p us) n) (AsksOfTerm shapes p)) (sym whole)
    (subst (λ m. AreAll (upto (field_rows s (PackTerm s (terms_of us)) us) m) (AsksOfTerm shapes (PackTerm s (terms_of us)))) (sym e) (pack_all shapes s us (subst (HasFields shapes s) e f)))

pub no_pack : (shapes : List Shape) {ns : List Node} {term of parts : ℕ} → IsPack ns term of parts → (HasFields shapes (type_at ns of) (length (list_of_terms (terms_at ns parts))) → ⊥) → AreAll [] (AsksOfTerm shapes (term_at ns term))
no_pack shapes {ns} {term} {of} {parts} h d =
    let s = type_at ns of in
    let us = list_of_terms (terms_at ns parts) in
    let whole : term_at ns term ≡ PackTerm s (terms_of us) = ap term_in h.whole.is ∙ ap (PackTerm s) (sym (terms_again (terms_at ns parts))) in
    subst (λ p. AreAll [] (AsksOfTerm shapes p)) (sym whole) (pack_none shapes s us d)
