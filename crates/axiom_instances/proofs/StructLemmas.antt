-- The whole lists consist of the instances that packs trigger.
use Rattle.std.proofs.Common.{◌≡◌, ℕ, zero, suc, ◌+◌, ◌<◌, ◌⊎◌, inl, inr, List, [], ◌∷◌, ◌++◌, length, get_or, slice_get, Some, refl, sym, ap, ◌∙◌, subst, arith}
use Rattle.std.proofs.lemmas.Option.{get_or_from_slice_get, slice_get-get_or, slice_get_within}
use Rattle.base.specs.TypeData.{TypeData, list_of_types}
use Rattle.fol.specs.declared.shapes.Shape.{Shape}
use Rattle.fol.specs.FormulaData.{TermData, NothingTerm, PackTerm, FieldTerm, FormulaData, EqFormula, terms_of, terms_of_injective}
use Rattle.axioms.specs.declared.axiom.Axiom.{Axiom}
use Rattle.axioms.specs.declared.axiom.Axiom.TheVariants.{OfStruct}
use Rattle.axioms.specs.declared.axiom.StructAxiom.TheVariants.{FieldOfPack}
use Rattle.axioms.specs.Facts.{IsWhole}
use Rattle.axioms.specs.Fields.{HasFields, shape_of}
use Rattle.axiom_instances.specs.Lists.{Triggered, IsAmong, IsHere, AreOnly, AreAll}
use Rattle.axiom_instances.specs.StructRows.{upto, field_rows}
use Rattle.axiom_instances.specs.Asks.{AsksOfTerm, ByPack, ByWhole}
use Rattle.axiom_instances.proofs.RowLemmas.{among_left, among_right, both_only}

-- ---- lists below a number

pub upto_next : (f : ℕ → List Triggered) (k : ℕ) → upto f (k + 1) ≡ upto f k ++ f k
upto_next f k = let one : k + 1 ≡ suc k = omega arith in ap (upto f) one

pub upto_only : (asks : Axiom → List TermData → FormulaData → Type 0) (f : ℕ → List Triggered) (n : ℕ) → ((k : ℕ) → k < n → AreOnly asks (f k)) → AreOnly asks (upto f n)
upto_only asks f zero h = tt
upto_only asks f (suc n) h =
    both_only asks (upto f n) (f n) (upto_only asks f n (λ k w. h k (omega arith))) (h n (omega arith))

below : (k n : ℕ) → k < suc n → (k < n) ⊎ (k ≡ n)
below zero zero w = inr refl
below zero (suc n) w = inl (omega arith)
below (suc k) zero w = absurd (omega arith)
below (suc k) (suc n) w = go (below k n (omega arith))
  where
    go : (k < n) ⊎ (k ≡ n) → (suc k < suc n) ⊎ (suc k ≡ suc n)
    go (inl h) = inl (omega arith)
    go (inr e) = inr (ap suc e)

one_more : {a : Triggered} (f : ℕ → List Triggered) (n k : ℕ) → (k < n → IsAmong a (upto f n)) → IsAmong a (f k) → (k < n) ⊎ (k ≡ n) → IsAmong a (upto f n ++ f n)
one_more f n k r h (inl w) = among_left (f n) (r w)
one_more {a} f n k r h (inr e) = among_right (upto f n) (subst (λ j. IsAmong a (f j)) e h)

pub upto_among : {a : Triggered} (f : ℕ → List Triggered) (n k : ℕ) → k < n → IsAmong a (f k) → IsAmong a (upto f n)
upto_among f zero k w h = absurd (omega arith)
upto_among f (suc n) k w h = one_more f n k (λ v. upto_among f n k v h) h (below k n w)

-- ---- the shape of a struct determines the number of its fields

pub one_count : (shapes : List Shape) (a : TypeData) (n m : ℕ) → HasFields shapes a n → HasFields shapes a m → n ≡ m
unfolding HasFields
one_count shapes a n m h k =
    let structs = sym h.2.1 ∙ k.2.1 in
    let same-name : h.2.0 ≡ k.2.0 = cc in
    let shapes-are = sym h.2.2 ∙ ap (shape_of shapes) same-name ∙ k.2.2 in
    let same-shape : h.0 ≡ k.0 = cc in
    sym h.3 ∙ ap (λ (shape : Shape). length (list_of_types shape.fields)) same-shape ∙ k.3

module _ (shapes : List Shape) where
  -- ---- packs

  data PackCase (s : TypeData) (us : List TermData) : Axiom → List TermData → FormulaData → Type 0 where
    ThePack : (k : ℕ) (t : TermData) → HasFields shapes s (length us) → slice_get us k ≡ Some t → PackCase s us (OfStruct FieldOfPack) (PackTerm s (terms_of us) ∷ []) (EqFormula (FieldTerm s k (PackTerm s (terms_of us))) t)

  of_pack : {t : TermData} {name : Axiom} {ts : List TermData} {p : FormulaData} → AsksOfTerm shapes t name ts p → (s : TypeData) (us : List TermData) → t ≡ PackTerm s (terms_of us) → PackCase s us name ts p
  of_pack (ByPack r k vs u h f) s us e =
      let same-type : r ≡ s = cc in
      let same-terms : terms_of vs ≡ terms_of us = cc in
      subst (λ x. PackCase x us (OfStruct FieldOfPack) (PackTerm r (terms_of vs) ∷ []) (EqFormula (FieldTerm r k (PackTerm r (terms_of vs))) u)) same-type
      (subst (λ ys. PackCase r ys (OfStruct FieldOfPack) (PackTerm r (terms_of vs) ∷ []) (EqFormula (FieldTerm r k (PackTerm r (terms_of vs))) u)) (terms_of_injective vs us same-terms) (ThePack k u h f))
  of_pack (ByWhole t w) s us e = absurd (subst IsWhole e w)
  of_pack _ s us e = absurd (cc)

  pack_asks : (s : TypeData) (us : List TermData) → HasFields shapes s (length us) → AreOnly (AsksOfTerm shapes (PackTerm s (terms_of us))) (upto (field_rows s (PackTerm s (terms_of us)) us) (length us))
  pack_asks s us h =
      upto_only (AsksOfTerm shapes (PackTerm s (terms_of us))) (field_rows s (PackTerm s (terms_of us)) us) (length us)
      (λ k w. (ByPack s k us (get_or us k NothingTerm) h (slice_get-get_or us k NothingTerm w), tt))

  pack_stands : {s : TypeData} {us : List TermData} {name : Axiom} {ts : List TermData} {p : FormulaData} → PackCase s us name ts p → IsAmong (record { name = name; terms = ts; formula = p }) (upto (field_rows s (PackTerm s (terms_of us)) us) (length us))
  pack_stands {s} {us} (ThePack k t h f) =
      upto_among (field_rows s (PackTerm s (terms_of us)) us) (length us) k (slice_get_within us k t f)
      (subst (λ u. IsAmong (record { name = OfStruct FieldOfPack; terms = PackTerm s (terms_of us) ∷ []; formula = EqFormula (FieldTerm s k (PackTerm s (terms_of us))) u }) (field_rows s (PackTerm s (terms_of us)) us k)) (get_or_from_slice_get us k t NothingTerm f) (IsHere []))

  pub pack_all : (s : TypeData) (us : List TermData) → HasFields shapes s (length us) → AreAll (upto (field_rows s (PackTerm s (terms_of us)) us) (length us)) (AsksOfTerm shapes (PackTerm s (terms_of us)))
  pack_all s us h = record { only = pack_asks s us h; all = λ name ts p a. pack_stands (of_pack a s us refl) }

  pub pack_none : (s : TypeData) (us : List TermData) → (HasFields shapes s (length us) → ⊥) → AreAll [] (AsksOfTerm shapes (PackTerm s (terms_of us)))
  pack_none s us d = record { only = tt; all = λ name ts p a. none (of_pack a s us refl) }
    where
      none : {name : Axiom} {ts : List TermData} {p : FormulaData} → PackCase s us name ts p → IsAmong (record { name = name; terms = ts; formula = p }) []
      none (ThePack k t h f) = absurd (d h)
