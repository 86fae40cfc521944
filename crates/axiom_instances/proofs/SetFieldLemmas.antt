-- The whole lists consist of the instances that field updates trigger.
use Rattle.std.proofs.Common.{◌≡◌, ◌≢◌, ℕ, ◌<◌, Bool, true, false, List, [], ◌∷◌, length, if◌then◌else◌, refl, sym, ap, ◌∙◌, subst, eqb}
use Rattle.std.proofs.lemmas.Bool.{eq-eqb, eqb-true}
use Rattle.base.specs.TypeData.{TypeData, list_of_types}
use Rattle.fol.specs.declared.shapes.Shape.{Shape}
use Rattle.fol.specs.FormulaData.{TermData, FieldTerm, SetFieldTerm, FormulaData, EqFormula, IsFormula, NotFormula}
use Rattle.axioms.specs.declared.axiom.Axiom.{Axiom}
use Rattle.axioms.specs.declared.axiom.Axiom.TheVariants.{OfStruct}
use Rattle.axioms.specs.declared.axiom.StructAxiom.TheVariants.{FieldSet, FieldOfOther}
use Rattle.axioms.specs.Facts.{IsWhole}
use Rattle.axioms.specs.Fields.{HasFields, HasField, shape_of}
use Rattle.certificates.specs.Table.{some_of}
use Rattle.term_pool.specs.Items.{term_in}
use Rattle.term_pool.specs.declared.node.Node.{Node}
use Rattle.axiom_instances.specs.Lists.{IsAmong, IsHere, IsLater, AreOnly, AreAll}
use Rattle.axiom_instances.specs.Numbers.{IsSetField, term_at, type_at}
use Rattle.axiom_instances.specs.StructRows.{HasNoFields}
use Rattle.axiom_instances.specs.SetFieldRows.{other_row, other_rows, set_field_rows}
use Rattle.axiom_instances.specs.Asks.{AsksOfTerm, BySetField, ByOtherField, ByWhole}
use Rattle.axiom_instances.proofs.StructLemmas.{upto_only, upto_among}

pub field_within : (shapes : List Shape) (a : TypeData) (n k : ℕ) → HasFields shapes a n → HasField shapes a k → k < n
unfolding HasFields HasField
field_within shapes a n k h f =
    let structs = sym h.2.1 ∙ f.2.1 in
    let same-name : h.2.0 ≡ f.2.0 = cc in
    let shapes-are = sym h.2.2 ∙ ap (shape_of shapes) same-name ∙ f.2.2 in
    let same-shape : h.0 ≡ f.0 = cc in
    subst (λ (j : ℕ). k < j) (sym (ap (λ (shape : Shape). length (list_of_types shape.fields)) same-shape) ∙ h.3) f.3

pub a_field : (shapes : List Shape) (a : TypeData) (n k : ℕ) → HasFields shapes a n → k < n → HasField shapes a k
unfolding HasFields HasField
a_field shapes a n k h w = (h.0, h.1, h.2, subst (λ (j : ℕ). k < j) (sym h.3) w)

module _ (shapes : List Shape) where
  data SetCase (s : TypeData) (k : ℕ) (t v : TermData) : Axiom → List TermData → FormulaData → Type 0 where
    TheField : HasField shapes s k → SetCase s k t v (OfStruct FieldSet) (SetFieldTerm s k t v ∷ []) (some_of (NotFormula (IsFormula s t) ∷ EqFormula (FieldTerm s k (SetFieldTerm s k t v)) v ∷ []))
    AnOther : (j : ℕ) → HasField shapes s j → HasField shapes s k → j ≢ k → SetCase s k t v (OfStruct FieldOfOther) (SetFieldTerm s k t v ∷ []) (EqFormula (FieldTerm s j (SetFieldTerm s k t v)) (FieldTerm s j t))

  of_set : {x : TermData} {name : Axiom} {ts : List TermData} {p : FormulaData} → AsksOfTerm shapes x name ts p → (s : TypeData) (k : ℕ) (t v : TermData) → x ≡ SetFieldTerm s k t v → SetCase s k t v name ts p
  of_set (BySetField r l x y h) s k t v e =
      let name = OfStruct FieldSet in
      let ts = SetFieldTerm r l x y ∷ [] in
      let p = some_of (NotFormula (IsFormula r x) ∷ EqFormula (FieldTerm r l (SetFieldTerm r l x y)) y ∷ []) in
      let a : r ≡ s = cc in
      let b : l ≡ k = cc in
      let c : x ≡ t = cc in
      let d : y ≡ v = cc in
      subst (λ z. SetCase z k t v name ts p) a (subst (λ z. SetCase r z t v name ts p) b (subst (λ z. SetCase r l z v name ts p) c (subst (λ z. SetCase r l x z name ts p) d (TheField h))))
  of_set (ByOtherField r j l x y h f n) s k t v e =
      let name = OfStruct FieldOfOther in
      let ts = SetFieldTerm r l x y ∷ [] in
      let p = EqFormula (FieldTerm r j (SetFieldTerm r l x y)) (FieldTerm r j x) in
      let a : r ≡ s = cc in
      let b : l ≡ k = cc in
      let c : x ≡ t = cc in
      let d : y ≡ v = cc in
      subst (λ z. SetCase z k t v name ts p) a (subst (λ z. SetCase r z t v name ts p) b (subst (λ z. SetCase r l z v name ts p) c (subst (λ z. SetCase r l x z name ts p) d (AnOther j h f n))))
  of_set (ByWhole t w) s k x v e = absurd (subst IsWhole e w)
  of_set _ s k t v e = absurd (cc)

  other_asks : (s : TypeData) (k : ℕ) (t v : TermData) (n j : ℕ) → HasFields shapes s n → HasField shapes s k → j < n → AreOnly (AsksOfTerm shapes (SetFieldTerm s k t v)) (other_rows s k t v j)
  other_asks s k t v n j h f w = go (eqb j k) refl
    where
      apart : true ≡ false → ⊥
      apart e = absurd (cc)

      go : (b : Bool) → eqb j k ≡ b → AreOnly (AsksOfTerm shapes (SetFieldTerm s k t v)) (if b then [] else (other_row s j k t v ∷ []))
      go true e = tt
      go false e = (ByOtherField s j k t v (a_field shapes s n _ h w) f (λ same. absurd (apart (sym (eq-eqb j k same) ∙ e))), tt)

  set_stands : {s : TypeData} {k : ℕ} {t v : TermData} (n : ℕ) {name : Axiom} {ts : List TermData} {p : FormulaData} → HasFields shapes s n → SetCase s k t v name ts p → IsAmong (record { name = name; terms = ts; formula = p }) (set_field_rows s k t v n)
  set_stands n h (TheField f) = IsHere _
  set_stands {s} {k} {t} {v} n h (AnOther j f g d) =
      IsLater _ _ (upto_among (other_rows s k t v) n j (field_within shapes s n j h f) (go (eqb j k) refl))
    where
      go : (b : Bool) → eqb j k ≡ b → IsAmong (other_row s j k t v) (if b then [] else (other_row s j k t v ∷ []))
      go true e = absurd (d (eqb-true j k e))
      go false e = IsHere []

  pub set_all : (s : TypeData) (k : ℕ) (t v : TermData) (n : ℕ) → HasFields shapes s n → k < n → AreAll (set_field_rows s k t v n) (AsksOfTerm shapes (SetFieldTerm s k t v))
  set_all s k t v n h w = record {
    only = (BySetField s k t v (a_field shapes s n _ h w), upto_only (AsksOfTerm shapes (SetFieldTerm s k t v)) (other_rows s k t v) n (λ j u. other_asks s k t v n j h (a_field shapes s n _ h w) u));
    all = λ name ts p a. set_stands n h (of_set a s k t v refl);
  }

  pub set_none : (s : TypeData) (k : ℕ) (t v : TermData) → (HasField shapes s k → ⊥) → AreAll [] (AsksOfTerm shapes (SetFieldTerm s k t v))
  set_none s k t v d = record { only = tt; all = λ name ts p a. none (of_set a s k t v refl) }
    where
      none : {name : Axiom} {ts : List TermData} {p : FormulaData} → SetCase s k t v name ts p → IsAmong (record { name = name; terms = ts; formula = p }) []
      none (TheField f) = absurd (d f)
      none (AnOther j f g e) = absurd (d g)

-- ---- by number

pub no_other : (s : TypeData) (j k : ℕ) (t v : TermData) → j ≡ k → other_rows s k t v j ≡ []
no_other s j k t v e = ap (λ (b : Bool). if b then [] else (other_row s j k t v ∷ [])) (eq-eqb j k e)

pub an_other : (s : TypeData) (j k : ℕ) (t v : TermData) → j ≢ k → other_row s j k t v ∷ [] ≡ other_rows s k t v j
an_other s j k t v d = go (eqb j k) refl
  where
    go : (b : Bool) → eqb j k ≡ b → other_row s j k t v ∷ [] ≡ (if b then [] else (other_row s j k t v ∷ []))
    go true e = absurd (d (eqb-true j k e))
    go false e = refl

module _ (shapes : List Shape) {ns : List Node} {term of k a b : ℕ} (h : IsSetField ns k term of a b) where
  pub set_here : (n : ℕ) → HasFields shapes (type_at ns of) n → k < n → AreAll (set_field_rows (type_at ns of) k (term_at ns a) (term_at ns b) n) (AsksOfTerm shapes (term_at ns term))
  set_here n f w =
      subst (λ t. AreAll (set_field_rows (type_at ns of) k (term_at ns a) (term_at ns b) n) (AsksOfTerm shapes t)) (sym (ap term_in h.whole.is)) (set_all shapes (type_at ns of) k (term_at ns a) (term_at ns b) n f w)

  pub no_set : (HasField shapes (type_at ns of) k → ⊥) → AreAll [] (AsksOfTerm shapes (term_at ns term))
  no_set d =
      subst (λ t. AreAll [] (AsksOfTerm shapes t)) (sym (ap term_in h.whole.is)) (set_none shapes (type_at ns of) k (term_at ns a) (term_at ns b) d)

pub no_field : (shapes : List Shape) (a : TypeData) (k : ℕ) → HasNoFields shapes a → HasField shapes a k → ⊥
unfolding HasFields HasField
no_field shapes a k none f = none.none (length (list_of_types f.0.fields)) (f.0, f.1, f.2, refl)
