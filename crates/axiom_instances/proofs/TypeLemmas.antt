-- The whole lists consist of the instances that a term and a type other than a struct type trigger.
use Rattle.std.proofs.Common.{◌≡◌, ℕ, List, [], ◌∷◌, length, Some, refl, subst}
use Rattle.base.specs.TypeData.{TypeData, BoolType, IntType, AddressType, SignerType, VectorType, StructType, TypesData}
use Rattle.base.specs.declared.types.StructId.{StructId}
use Rattle.base.specs.declared.types.Width.TheVariants.{U8, U16, U32, U64, U128}
use Rattle.fol.specs.declared.shapes.Shape.{Shape}
use Rattle.fol.specs.FormulaData.{TermData, MaxTerm, FormulaData}
use Rattle.axioms.specs.declared.axiom.Axiom.{Axiom}
use Rattle.axioms.specs.declared.axiom.Axiom.TheVariants.{Exactly}
use Rattle.axioms.specs.declared.axiom.Equivalence.TheVariants.{Range}
use Rattle.axioms.specs.Equivalences.{greatest}
use Rattle.axioms.specs.Fields.{HasFields, HasFieldType}
use Rattle.axioms.specs.Structs.{ArePartsTyped}
use Rattle.certificates.specs.Table.{range_axiom}
use Rattle.axiom_instances.specs.Lists.{Triggered, IsAmong, IsHere, IsLater, AreOnly, AreAll}
use Rattle.axiom_instances.specs.TypeRows.{type_rows, IsNoStruct}
use Rattle.axiom_instances.specs.Asks.{AsksOfType, ByStructTyped, ByPackTyped, ByFieldTyped, ByRange, BySigner, ByVector, ByBool}

-- ---- a type other than a struct type has no fields

no_struct : {a : TypeData} {s : StructId} {args : TypesData} → a ≡ StructType s args → IsNoStruct a → ⊥
no_struct {a} e h = subst IsNoStruct e h

no_fields : (shapes : List Shape) (a : TypeData) (n : ℕ) → HasFields shapes a n → IsNoStruct a → ⊥
unfolding HasFields
no_fields shapes a k h n = no_struct h.2.1 n

no_parts : (shapes : List Shape) (a : TypeData) (us : List TermData) (ps : List FormulaData) → ArePartsTyped shapes a us ps → IsNoStruct a → ⊥
unfolding ArePartsTyped
no_parts shapes a us ps h n = no_struct h.2.1 n

no_field_type : (shapes : List Shape) (a b : TypeData) (k : ℕ) → HasFieldType shapes a k b → IsNoStruct a → ⊥
unfolding HasFieldType
no_field_type shapes a b k h n = no_struct h.3.1 n

module _ (shapes : List Shape) where
  type_asks : (a : TypeData) (t : TermData) → AreOnly (AsksOfType shapes a t) (type_rows a t)
  type_asks BoolType t = (ByBool t, tt)
  type_asks (IntType U8) t = (ByRange (IntType U8) t _ refl, tt)
  type_asks (IntType U16) t = (ByRange (IntType U16) t _ refl, tt)
  type_asks (IntType U32) t = (ByRange (IntType U32) t _ refl, tt)
  type_asks (IntType U64) t = (ByRange (IntType U64) t _ refl, tt)
  type_asks (IntType U128) t = (ByRange (IntType U128) t _ refl, tt)
  type_asks AddressType t = (ByRange AddressType t _ refl, tt)
  type_asks SignerType t = (ByRange SignerType t _ refl, (BySigner t, tt))
  type_asks (VectorType a) t = (ByVector a t, tt)
  type_asks _ t = tt

  one_most : {x y : TermData} → Some x ≡ Some y → x ≡ y
  one_most e = cc

  range_here : (a : TypeData) (t most m : TermData) (as' : List Triggered) → Some m ≡ Some most → IsAmong (record { name = Exactly Range; terms = t ∷ []; formula = range_axiom a t most }) (record { name = Exactly Range; terms = t ∷ []; formula = range_axiom a t m } ∷ as')
  range_here a t most m as' e =
      subst (λ k. IsAmong (record { name = Exactly Range; terms = t ∷ []; formula = range_axiom a t k }) (record { name = Exactly Range; terms = t ∷ []; formula = range_axiom a t m } ∷ as')) (one_most e) (IsHere as')

  range_stands : (a : TypeData) (t most : TermData) → greatest a ≡ Some most → IsAmong (record { name = Exactly Range; terms = t ∷ []; formula = range_axiom a t most }) (type_rows a t)
  range_stands (IntType U8) t most e = range_here (IntType U8) t most _ [] e
  range_stands (IntType U16) t most e = range_here (IntType U16) t most _ [] e
  range_stands (IntType U32) t most e = range_here (IntType U32) t most _ [] e
  range_stands (IntType U64) t most e = range_here (IntType U64) t most _ [] e
  range_stands (IntType U128) t most e = range_here (IntType U128) t most _ [] e
  range_stands AddressType t most e = range_here AddressType t most _ [] e
  range_stands SignerType t most e = range_here SignerType t most MaxTerm _ e
  range_stands _ t most e = absurd (cc)

  type_stands : {a : TypeData} {t : TermData} {name : Axiom} {ts : List TermData} {p : FormulaData} → AsksOfType shapes a t name ts p → IsNoStruct a → IsAmong (record { name = name; terms = ts; formula = p }) (type_rows a t)
  type_stands (ByStructTyped s us t h f) n = absurd (no_fields shapes s (length us) h n)
  type_stands (ByPackTyped s us ps h) n = absurd (no_parts shapes s us ps h n)
  type_stands (ByFieldTyped s k t a h) n = absurd (no_field_type shapes s a k h n)
  type_stands (ByRange a t most e) n = range_stands a t most e
  type_stands (BySigner t) n = IsLater _ _ (IsHere _)
  type_stands (ByVector a v) n = IsHere _
  type_stands (ByBool t) n = IsHere _

  pub types : (a : TypeData) (t : TermData) → IsNoStruct a → AreAll (type_rows a t) (AsksOfType shapes a t)
  types a t n = record { only = type_asks a t; all = λ name ts p h. type_stands h n }
