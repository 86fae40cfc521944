-- Vector types and their numbers, and terms that trigger no instance beside them or when read.
use Rattle.std.proofs.Common.{◌≡◌, ℕ, ◌⊎◌, inl, inr, List, [], ◌∷◌, sym, ap, ◌∙◌, refl, subst}
use Rattle.base.specs.TypeData.{TypeData, VectorType}
use Rattle.fol.specs.FormulaData.{TermData}
use Rattle.term_pool.specs.Items.{Item, TermItem, TypeItem}
use Rattle.term_pool.specs.Pools.{IsItem}
use Rattle.term_pool.specs.declared.node.Node.{Node}
use Rattle.axiom_instances.specs.declared.triggered.TriggeredTerms.TheVariants.{Two}
use Rattle.axiom_instances.specs.declared.reading.TypeForm.{TypeForm}
use Rattle.axiom_instances.specs.declared.reading.TypeForm.TheVariants.{Bool, Int, Address, Signer, Vector, Struct, Other}
use Rattle.axiom_instances.specs.Lists.{AreTerms, OfTwo}
use Rattle.axiom_instances.specs.Numbers.{IsTypeNumber, HasTypeForm, IsOtherType, IsNum, IsParam, IsShared, IsMutable, IsTuple, IsStructType, IsPlainType, type_at}
use Rattle.axiom_instances.specs.PairRows.{IsNoVector, item_rows, beside_rows}
use Rattle.axiom_instances.specs.TypeRows.{type_rows}
use Rattle.axiom_instances.specs.Templates.{AreItems, MoreItems}
use Rattle.axiom_instances.proofs.NumberLemmas.{given_4}

pub two_terms : {ns : List Node} {i j : ℕ} {t u : TermData} → IsItem ns i (TermItem t) → IsItem ns j (TermItem u) → AreTerms ns (Two i j) (t ∷ u ∷ [])
two_terms h k = OfTwo _ _ _ _ h k

pub given_5 : {ns : List Node} {i j k l m : ℕ} {x y z w v : Item} → IsItem ns i x → IsItem ns j y → IsItem ns k z → IsItem ns l w → IsItem ns m v → AreItems ns (i ∷ j ∷ k ∷ l ∷ m ∷ []) (x ∷ y ∷ z ∷ w ∷ v ∷ [])
given_5 h k l m n = MoreItems _ _ _ _ h (given_4 k l m n)

-- replacement of a type by an equal one
pub type_item : {ns : List Node} {n : ℕ} {a : TypeData} → IsTypeNumber ns n → type_at ns n ≡ a → IsItem ns n (TypeItem a)
type_item h e = record { within = h.within; is = h.is ∙ ap TypeItem e }

-- ---- types other than vector types

other_no_vector : {t : TypeData} → IsOtherType t → (a : TypeData) → t ≡ VectorType a → ⊥
other_no_vector IsNum a e = absurd (cc)
other_no_vector (IsParam n) a e = absurd (cc)
other_no_vector (IsShared b) a e = absurd (cc)
other_no_vector (IsMutable b) a e = absurd (cc)
other_no_vector (IsTuple bs) a e = absurd (cc)

pub no_vector : (ns : List Node) (n : ℕ) (f : TypeForm) → HasTypeForm ns n f → ((x : ℕ) → f ≡ Vector x → ⊥) → IsNoVector ns n
no_vector ns n Bool h d = record { none = λ a e. let g = sym h ∙ e in absurd (cc) }
no_vector ns n (Int w) h d = record { none = λ a e. let g = sym h ∙ e in absurd (cc) }
no_vector ns n Address h d = record { none = λ a e. let g = sym h ∙ e in absurd (cc) }
no_vector ns n Signer h d = record { none = λ a e. let g = sym h ∙ e in absurd (cc) }
no_vector ns n (Vector x) h d = absurd (d x refl)
no_vector ns n Struct h d = record { none = λ a e. let g = sym h.is ∙ e in absurd (cc) }
no_vector ns n Other h d = record { none = λ a e. other_no_vector h.other a e }

no_items : (b : TypeData) (v i : TermData) → ((a : TypeData) → b ≡ VectorType a → ⊥) → item_rows b v i ≡ []
no_items (VectorType a) v i d = absurd (d a refl)
no_items _ v i d = refl

pub no_item : {ns : List Node} {n : ℕ} (v i : TermData) → IsNoVector ns n → item_rows (type_at ns n) v i ≡ []
no_item v i h = no_items _ v i h.none

none_beside : (b : TypeData) (t : TermData) → ((a : TypeData) → b ≡ VectorType a → ⊥) → beside_rows b t ≡ []
none_beside (VectorType a) t d = absurd (d a refl)
none_beside _ t d = refl

pub nothing_beside : {ns : List Node} {n : ℕ} (t : TermData) → IsNoVector ns n → beside_rows (type_at ns n) t ≡ []
nothing_beside t h = none_beside _ t h.none

-- ---- types that trigger no instance

other_quiet : (t : TermData) {a : TypeData} → IsOtherType a → type_rows a t ≡ []
other_quiet t IsNum = refl
other_quiet t (IsParam n) = refl
other_quiet t (IsShared b) = refl
other_quiet t (IsMutable b) = refl
other_quiet t (IsTuple bs) = refl

pub quiet_type : (ns : List Node) (n : ℕ) (t : TermData) (f : TypeForm) → HasTypeForm ns n f → (f ≡ Struct) ⊎ (f ≡ Other) → type_rows (type_at ns n) t ≡ []
quiet_type ns n t f h (inl e) = let g : IsStructType ns n = subst (HasTypeForm ns n) e h in ap (λ a. type_rows a t) g.is
quiet_type ns n t f h (inr e) = let g : IsPlainType ns n = subst (HasTypeForm ns n) e h in other_quiet t g.other
