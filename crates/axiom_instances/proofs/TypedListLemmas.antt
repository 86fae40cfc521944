-- Packs of a type, and the list of the formulas that state the types of their parts, from its end.
use Rattle.std.proofs.Common.{◌≡◌, ◌≢◌, ◌⊎◌, inl, inr, ℕ, suc, ◌+◌, ◌<◌, ◌≤◌, List, length, Option, Some, None, refl, sym, ap, ◌∙◌, subst, arith}
use Rattle.std.specs.Prelude.{slice_index_or}
use Rattle.std.proofs.lemmas.Bool.{cases_lt}
use Rattle.base.specs.TypeData.{TypeData}
use Rattle.fol.specs.FormulaData.{TermData, ConstantTerm, UnaryTerm, BinaryTerm, TernaryTerm, PackTerm, SetFieldTerm, IfTerm, FormulaData, IsFormula, MoreFormulas, formulas_of}
use Rattle.term_pool.specs.Items.{FormulaItem, FormulasItem, TypeItem, term_in}
use Rattle.term_pool.specs.Pools.{HasParts, IsItem, IsMade, IsOneNumber, Extends}
use Rattle.term_pool.specs.declared.node.Leaf.TheVariants.{NilFormulas}
use Rattle.term_pool.specs.declared.node.Two.TheVariants.{Is, ConsFormula}
use Rattle.term_pool.specs.declared.node.Node.{Node}
use Rattle.term_pool.specs.declared.node.Node.TheVariants.{Leaf as LeafNode, Two as TwoNode}
use Rattle.term_pool.proofs.GrowthLemmas.{item_stays, leaf_made, two_made, two_parts, two_is}
use Rattle.axiom_instances.specs.declared.reading.TermForm.{TermForm}
use Rattle.axiom_instances.specs.declared.reading.TermForm.TheVariants.{Constant, Unary, Binary, Ternary, If, Pack, SetField, Other}
use Rattle.axiom_instances.specs.Numbers.{IsTermNumber, IsTypeNumber, IsPack, HasForm, IsOtherTerm, IsVariable, IsField, IsNone, term_at, terms_at, type_at, formula_at}
use Rattle.axiom_instances.specs.PackTypedRows.{IsNoPack, IsTypedList, typed_from, found_type, found_types, terms_numbered}

-- ---- packs of a type

pub own_pack : {ns : List Node} {n own of us : ℕ} → IsPack ns n own us → own ≡ of → IsPack ns n of us
own_pack {ns} {n} {own} {of} {us} h e = subst (λ k. IsPack ns n k us) e h

pub other_pack : {ns : List Node} {n own of us : ℕ} → IsOneNumber ns → IsTypeNumber ns of → IsPack ns n own us → own ≢ of → IsNoPack (type_at ns of) (term_at ns n)
other_pack {ns} {n} {own} {of} {us} one number h d = record {
  none = λ vs e. (let both : PackTerm (type_at ns own) (terms_at ns us) ≡ PackTerm (type_at ns of) vs = sym (ap term_in h.whole.is) ∙ e in let same : type_at ns own ≡ type_at ns of = cc in d (one.one own of h.of.within number.within (h.of.is ∙ ap TypeItem same ∙ sym number.is)));
}

other_no_pack : {t : TermData} (a : TypeData) → IsOtherTerm t → IsNoPack a t
other_no_pack a (IsVariable k) = record { none = λ us e. absurd (cc) }
other_no_pack a (IsField s k t) = record { none = λ us e. absurd (cc) }
other_no_pack a IsNone = record { none = λ us e. absurd (cc) }

no_pack_of : (ns : List Node) (n : ℕ) (a : TypeData) (t : TermData) → term_at ns n ≡ t → IsNoPack a t → IsNoPack a (term_at ns n)
no_pack_of ns n a t e h = subst (IsNoPack a) (sym e) h

pub no_pack_form : (ns : List Node) (n : ℕ) (a : TypeData) (f : TermForm) → HasForm ns n f → ((x y : ℕ) → f ≡ Pack x y → ⊥) → IsNoPack a (term_at ns n)
no_pack_form ns n a (Constant c) h d = no_pack_of ns n a (ConstantTerm c) (ap term_in h.is) (record { none = λ us e. absurd (cc) })
no_pack_form ns n a (Unary o x) h d = no_pack_of ns n a (UnaryTerm o (term_at ns x)) (ap term_in h.whole.is) (record { none = λ us e. absurd (cc) })
no_pack_form ns n a (Binary o x y) h d = no_pack_of ns n a (BinaryTerm o (term_at ns x) (term_at ns y)) (ap term_in h.whole.is) (record { none = λ us e. absurd (cc) })
no_pack_form ns n a (Ternary o x y z) h d = no_pack_of ns n a (TernaryTerm o (term_at ns x) (term_at ns y) (term_at ns z)) (ap term_in h.whole.is) (record { none = λ us e. absurd (cc) })
no_pack_form ns n a (If p x y) h d = no_pack_of ns n a (IfTerm (formula_at ns p) (term_at ns x) (term_at ns y)) (ap term_in h.whole.is) (record { none = λ us e. absurd (cc) })
no_pack_form ns n a (Pack s us) h d = absurd (d s us refl)
no_pack_form ns n a (SetField k s x y) h d = no_pack_of ns n a (SetFieldTerm (type_at ns s) k (term_at ns x) (term_at ns y)) (ap term_in h.whole.is) (record { none = λ us e. absurd (cc) })
no_pack_form ns n a Other h d = other_no_pack a h.other

-- ---- the list, from its end

equal_or_above : (j k : ℕ) → k ≤ j → (j ≡ k) ⊎ (k < j)
equal_or_above j k w = elim (cases_lt k j) [ inl l ↦ inr l | inr l ↦ inl (omega (arith, w, l)) ]

pub record IsTypedBehind (ns ms : List Node) (founds : List (Option ℕ)) (numbers : List ℕ) (rest list : ℕ) : Type 0 where
  pub more : ℕ
  pub sum : rest + more ≡ length numbers
  pub found : (k : ℕ) → rest ≤ k → k < length founds → slice_index_or founds k None ≢ None
  pub is : IsItem ms list (FormulasItem (formulas_of (typed_from (found_types ns founds) (terms_numbered ns numbers) rest more)))

module _ (ns : List Node) (founds : List (Option ℕ)) (numbers : List ℕ) (many : length founds ≡ length numbers) where
  pub typed_none : {ms : List Node} {list : ℕ} → IsMade ms list (LeafNode NilFormulas) → IsTypedBehind ns ms founds numbers (length numbers) list
  typed_none m = record { more = 0; sum = omega arith; found = λ k w v. absurd (omega (arith, w, v, many)); is = leaf_made NilFormulas m }

  pub typed_done : {ms : List Node} {list : ℕ} (rest : ℕ) → rest ≡ 0 → IsTypedBehind ns ms founds numbers rest list → IsTypedList ns ms founds numbers list
  typed_done {ms} {list} rest e b =
      let all : b.more ≡ length numbers = (let s = b.sum in omega (arith, e, s)) in
      record {
        found = record { each = λ k w. b.found k (omega (arith, e)) w };
        is = subst (λ n. IsItem ms list (FormulasItem (formulas_of (typed_from (found_types ns founds) (terms_numbered ns numbers) 0 n)))) all (subst (λ k. IsItem ms list (FormulasItem (formulas_of (typed_from (found_types ns founds) (terms_numbered ns numbers) k b.more)))) e b.is);
      }

  pub typed_more : {ms ks ls : List Node} {typed list made : ℕ} (k rest of part : ℕ) → rest ≡ suc k → slice_index_or founds k None ≡ Some of → slice_index_or numbers k 0 ≡ part → Extends ms ks → Extends ks ls → IsItem ks typed (FormulaItem (IsFormula (type_at ns of) (term_at ns part))) → IsTypedBehind ns ms founds numbers rest list → HasParts ks (length ks) (TwoNode ConsFormula typed list) → IsMade ls made (TwoNode ConsFormula typed list) → IsTypedBehind ns ls founds numbers k made
  typed_more {ms} {ks} {ls} {typed} {list} {made} k rest of part e found number grown later h b p m =
      let f = found_types ns founds in
      let g = terms_numbered ns numbers in
      let whole = two_is ConsFormula h (item_stays grown b.is) (two_made ConsFormula later p m) in
      let to : type_at ns of ≡ f k = ap (found_type ns) (sym found) in
      let of_part : term_at ns part ≡ g k = ap (term_at ns) (sym number) in
      record {
        more = suc b.more;
        sum = (let s = b.sum in omega (arith, e, s));
        found = λ j w v. go j w v (slice_index_or founds j None) refl;
        is = subst (IsItem ls made) (λ i. FormulasItem (MoreFormulas (IsFormula (to i) (of_part i)) (formulas_of (typed_from f g (e i) b.more)))) whole;
      }
    where
      go : (j : ℕ) → k ≤ j → j < length founds → (o : Option ℕ) → slice_index_or founds j None ≡ o → slice_index_or founds j None ≢ None
      go j w v (Some n) s = λ z. (let both : Some n ≡ None = sym s ∙ z in absurd (cc))
      go j w v None s = λ z. elim (equal_or_above j k w) [ inl same ↦ (let both : Some of ≡ None = sym found ∙ ap (λ i. slice_index_or founds i None) (sym same) ∙ s in absurd (cc)) | inr above ↦ b.found j (omega (arith, e, above)) v s ]

module _ {ns ms : List Node} {of part : ℕ} (grown : Extends ns ms) (h : IsTypeNumber ns of) (i : IsTermNumber ns part) where
  pub said_parts : HasParts ms (length ms) (TwoNode Is of part)
  said_parts = two_parts Is (item_stays grown h) (item_stays grown i) refl refl

  pub said_is : {ks : List Node} {typed : ℕ} → Extends ms ks → IsMade ks typed (TwoNode Is of part) → IsItem ks typed (FormulaItem (IsFormula (type_at ns of) (term_at ns part)))
  said_is later m = two_is Is (item_stays grown h) (item_stays grown i) (two_made Is later said_parts m)

pub rest_parts : {ns ms ks : List Node} {founds : List (Option ℕ)} {numbers : List ℕ} {rest typed list : ℕ} {p : FormulaData} → Extends ms ks → IsItem ks typed (FormulaItem p) → IsTypedBehind ns ms founds numbers rest list → HasParts ks (length ks) (TwoNode ConsFormula typed list)
rest_parts e h b = two_parts ConsFormula h (item_stays e b.is) refl refl
