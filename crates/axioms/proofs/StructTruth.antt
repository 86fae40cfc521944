-- The axioms on struct types are true.
use Rattle.std.proofs.Common.{◌≡◌, ◌≢◌, ℕ, zero, suc, ◌<◌, List, [], ◌∷◌, length, map, get_or, set, Option, Some, None, slice_get, cond, Bool, true, false, ◌&&◌, ◌==◌, refl, sym, ap, ◌∙◌, subst, arith}
use Rattle.std.proofs.lemmas.List.{get_or-set_same, get_or-set_other, ext_get_or}
use Rattle.std.proofs.lemmas.Bool.{eq-eqb}
use Rattle.base.proofs.TruthValues.{both_true}
use Rattle.base.specs.TypeData.{TypeData, TypesData, BoolType, IntType, NumType, AddressType, SignerType, VectorType, StructType, ParamType, SharedType, MutableType, TupleType, NoTypes, MoreTypes, list_of_types}
use Rattle.base.specs.declared.types.StructId.{StructId}
use Rattle.fol.specs.declared.shapes.Shape.{Shape}
use Rattle.fol.specs.FormulaData.{TermData, FormulaData, terms_of, formulas_of}
use Rattle.fol.specs.Val.{Val, NumberValue, TruthValue, NothingValue, VectorValue, StructValue, MemoryValue, Vals, NoValues, MoreValues, values_of, list_of_values, list_of_values-values_of, values_of-list_of_values, same_value, same_value_itself, same_type, same_type-equal, same_type_itself}
use Rattle.fol.specs.Operators.{field_value, set_field_value}
use Rattle.fol.specs.TypedValue.{put_types, put_types_in, argument, same_struct, field_types, has_type, have_types}
use Rattle.fol.specs.Truth.{Interpretation, Assignment, value_of, values_of_terms, truth_of, all_true}
use Rattle.axioms.specs.declared.axiom.StructAxiom.{StructAxiom}
use Rattle.axioms.specs.declared.axiom.StructAxiom.TheVariants.{FieldOfPack, FieldSet, FieldOfOther, PackOfFields, PackTyped, FieldTyped}
use Rattle.axioms.specs.Fields.{shape_of, IsStruct, HasFields, HasField, HasFieldType, IsPut, ArePut}
use Rattle.axioms.specs.Structs.{AreFieldsOf, IsFieldTyped, AreFieldsTyped, ArePartsTyped, IsStructAxiom}
use Rattle.axioms.proofs.AlternativeTruth.{or_left}
use Rattle.axioms.proofs.RuleTruth.{implied}
use Rattle.axioms.proofs.EquivalenceTruth.{same_truth_itself}

-- ---- the types of fields

-- the types of the fields of a struct of this shape with these type arguments
abbrev fields_at : Shape → TypesData → List TypeData
fields_at shape args = map (put_types (argument args)) (list_of_types shape.fields)

field_types_of : (shapes : List Shape) (s : StructId) (shape : Shape) (args : TypesData) → shape_of shapes s ≡ Some shape → length (list_of_types args) ≡ shape.parameters → field_types shapes s args ≡ Some (fields_at shape args)
field_types_of [] s shape args e n = absurd (cc)
field_types_of (one ∷ shapes) s shape args e n = go (field_types_of shapes s shape args) (same_struct one.name s) e
  where
    go : (shape_of shapes s ≡ Some shape → length (list_of_types args) ≡ shape.parameters → field_types shapes s args ≡ Some (fields_at shape args)) → (b : Bool) → cond b (Some one) (shape_of shapes s) ≡ Some shape → cond b (cond (length (list_of_types args) == one.parameters) (Some (fields_at one args)) None) (field_types shapes s args) ≡ Some (fields_at shape args)
    go rest true f =
        let same : one ≡ shape = cc in
        ap (λ (x : Shape). cond (length (list_of_types args) == x.parameters) (Some (fields_at x args)) None) same ∙ ap (λ b. cond b (Some (fields_at shape args)) None) (eq-eqb (length (list_of_types args)) shape.parameters n)
    go rest false f = rest f n

module _ (named : ℕ → TypeData) where
  put_length : (args : TypesData) → length (list_of_types (put_types_in named args)) ≡ length (list_of_types args)
  put_length NoTypes = refl
  put_length (MoreTypes a args) = ap suc (put_length args)

  put_argument : (args : TypesData) (n : ℕ) (a d : TypeData) → slice_get (list_of_types args) n ≡ Some a → put_types named a ≡ get_or (list_of_types (put_types_in named args)) n d
  put_argument NoTypes n a d e = absurd (cc)
  put_argument (MoreTypes b args) zero a d e = let same : b ≡ a = cc in ap (put_types named) (sym same)
  put_argument (MoreTypes b args) (suc n) a d e = put_argument args n a d e

  mutual
    -- the substitution of the type arguments, and then of the types of the type parameters
    put_twice : (args : TypesData) (f a : TypeData) → IsPut (list_of_types args) f a → put_types named a ≡ put_types (argument (put_types_in named args)) f
    put_twice args (ParamType n) a h = put_argument args n a (ParamType n) h
    put_twice args (VectorType f) (VectorType a) h = ap VectorType (put_twice args f a h)
    put_twice args (StructType s fs) (StructType r as') h =
        λ i. StructType (sym h.0 i) (put_all_twice args fs as' h.1 i)
    put_twice args (SharedType f) (SharedType a) h = ap SharedType (put_twice args f a h)
    put_twice args (MutableType f) (MutableType a) h = ap MutableType (put_twice args f a h)
    put_twice args (TupleType fs) (TupleType as') h = ap TupleType (put_all_twice args fs as' h)
    put_twice args (IntType v) (IntType w) h = ap IntType (sym h)
    put_twice args BoolType BoolType h = refl
    put_twice args NumType NumType h = refl
    put_twice args AddressType AddressType h = refl
    put_twice args SignerType SignerType h = refl
    put_twice args f a h = absurd h

    put_all_twice : (args fs as' : TypesData) → ArePut (list_of_types args) fs as' → put_types_in named as' ≡ put_types_in (argument (put_types_in named args)) fs
    put_all_twice args NoTypes NoTypes h = refl
    put_all_twice args (MoreTypes f fs) (MoreTypes a as') h =
        λ i. MoreTypes (put_twice args f a h.0 i) (put_all_twice args fs as' h.1 i)
    put_all_twice args fs as' h = absurd h

-- ---- values of struct types

abbrev some_and : {A : Type 0} → Option A → (A → Bool) → Bool
some_and None test = false
some_and (Some x) test = test x

module _ (shapes : List Shape) where
  -- a value of a struct type is a struct of that type with its fields
  pub record Fields (a : TypeData) (types : List TypeData) (v : Val) : Type 0 where
    pub values : Vals
    pub is : v ≡ StructValue a values
    pub typed : have_types shapes types values ≡ true

  fields_typed : (s : StructId) (args : TypesData) (types : List TypeData) → field_types shapes s args ≡ Some types → (v : Val) → has_type shapes (StructType s args) v ≡ true → Fields (StructType s args) types v
  fields_typed s args types e (StructValue u vs) h =
      let both = both_true (same_type (StructType s args) u) (some_and (field_types shapes s args) (λ ts. have_types shapes ts vs)) h in
      let same : StructType s args ≡ u = same_type-equal _ _ both.0 in
      record { values = vs; is = ap (λ (x : TypeData). StructValue x vs) (sym same); typed = ap (λ (o : Option (List TypeData)). some_and o (λ ts. have_types shapes ts vs)) (sym e) ∙ both.1 }
  fields_typed s args types e (NumberValue z) h = absurd (cc)
  fields_typed s args types e (TruthValue b) h = absurd (cc)
  fields_typed s args types e NothingValue h = absurd (cc)
  fields_typed s args types e (VectorValue vs) h = absurd (cc)
  fields_typed s args types e (MemoryValue es) h = absurd (cc)

  struct_typed : (s : StructId) (args : TypesData) (types : List TypeData) → field_types shapes s args ≡ Some types → (vs : Vals) → has_type shapes (StructType s args) (StructValue (StructType s args) vs) ≡ have_types shapes types vs
  struct_typed s args types e vs =
      (λ i. same_type_itself (StructType s args) i && some_and (e i) (λ ts. have_types shapes ts vs))

  types_length : (types : List TypeData) (vs : Vals) → have_types shapes types vs ≡ true → length (list_of_values vs) ≡ length types
  types_length [] NoValues h = refl
  types_length [] (MoreValues v vs) h = absurd (cc)
  types_length (a ∷ types) NoValues h = absurd (cc)
  types_length (a ∷ types) (MoreValues v vs) h = ap suc (types_length types vs (both_true _ _ h).1)

  field_typed : (g : TypeData → TypeData) (fields : List TypeData) (vs : Vals) (k : ℕ) (f : TypeData) → have_types shapes (map g fields) vs ≡ true → slice_get fields k ≡ Some f → has_type shapes (g f) (get_or (list_of_values vs) k NothingValue) ≡ true
  field_typed g [] vs k f h e = absurd (cc)
  field_typed g (one ∷ fields) NoValues k f h e = absurd (cc)
  field_typed g (one ∷ fields) (MoreValues v vs) zero f h e =
      let same : one ≡ f = cc in
      subst (λ (x : TypeData). has_type shapes (g x) v ≡ true) same (both_true _ _ h).0
  field_typed g (one ∷ fields) (MoreValues v vs) (suc k) f h e = field_typed g fields vs k f (both_true _ _ h).1 e

-- ---- fields of values

field_of : (a : TypeData) (k : ℕ) (vs : Vals) → field_value a k (StructValue a vs) ≡ get_or (list_of_values vs) k NothingValue
field_of a k vs = ap (λ b. cond b (get_or (list_of_values vs) k NothingValue) NothingValue) (same_type_itself a)

field_of_set : (a : TypeData) (k : ℕ) (vs : Vals) (w : Val) → k < length (list_of_values vs) → field_value a k (set_field_value a k (StructValue a vs) w) ≡ w
field_of_set a k vs w h =
    ap (λ b. field_value a k (cond b (StructValue a (values_of (set (list_of_values vs) k w))) (StructValue a vs))) (same_type_itself a) ∙ field_of a k (values_of (set (list_of_values vs) k w)) ∙ ap (λ (xs : List Val). get_or xs k NothingValue) (list_of_values-values_of (set (list_of_values vs) k w)) ∙ get_or-set_same (list_of_values vs) k w NothingValue h

other_field : (a : TypeData) (j k : ℕ) → j ≢ k → (v w : Val) → field_value a j (set_field_value a k v w) ≡ field_value a j v
other_field a j k apart (StructValue u vs) w = go (same_type a u)
  where
    inner : field_value a j (StructValue u (values_of (set (list_of_values vs) k w))) ≡ field_value a j (StructValue u vs)
    inner =
        ap (λ (x : Val). cond (same_type a u) x NothingValue) (ap (λ (xs : List Val). get_or xs j NothingValue) (list_of_values-values_of (set (list_of_values vs) k w)) ∙ get_or-set_other (list_of_values vs) k j w NothingValue apart)

    go : (b : Bool) → field_value a j (cond b (StructValue u (values_of (set (list_of_values vs) k w))) (StructValue u vs)) ≡ field_value a j (StructValue u vs)
    go true = inner
    go false = refl
other_field a j k apart (NumberValue z) w = refl
other_field a j k apart (TruthValue b) w = refl
other_field a j k apart NothingValue w = refl
other_field a j k apart (VectorValue vs) w = refl
other_field a j k apart (MemoryValue es) w = refl

module _ (m : Interpretation) (s : Assignment) where
  abbrev V : TermData → Val
  V t = value_of m t s

  abbrev at : {p q : FormulaData} → p ≡ q → truth_of m p s ≡ truth_of m q s
  at e = ap (λ x. truth_of m x s) e

  value_at : (ts : List TermData) (k : ℕ) (t : TermData) → slice_get ts k ≡ Some t → get_or (list_of_values (values_of_terms m (terms_of ts) s)) k NothingValue ≡ V t
  value_at [] k t e = absurd (cc)
  value_at (u ∷ ts) zero t e = let same : u ≡ t = cc in ap V same
  value_at (u ∷ ts) (suc k) t e = value_at ts k t e

  value_in : (ts : List TermData) (k : ℕ) (d : TermData) → k < length ts → get_or (list_of_values (values_of_terms m (terms_of ts) s)) k NothingValue ≡ V (get_or ts k d)
  value_in [] k d h = absurd (omega arith)
  value_in (u ∷ ts) zero d h = refl
  value_in (u ∷ ts) (suc k) d h = value_in ts k d (omega arith)

  values_length : (ts : List TermData) → length (list_of_values (values_of_terms m (terms_of ts) s)) ≡ length ts
  values_length [] = refl
  values_length (t ∷ ts) = ap suc (values_length ts)

  -- the struct of the type, under the types of the type parameters
  pub record Met (a : TypeData) (shape : Shape) (args : TypesData) : Type 0 where
    pub name : StructId
    pub is : put_types m.named a ≡ StructType name (put_types_in m.named args)
    pub types : field_types m.shapes name (put_types_in m.named args) ≡ Some (fields_at shape (put_types_in m.named args))

  met : (a : TypeData) (shape : Shape) (args : TypesData) → IsStruct m.shapes a shape args → Met a shape args
  met a shape args h =
      record { name = h.0; is = ap (put_types m.named) h.1; types = field_types_of m.shapes h.0 shape (put_types_in m.named args) h.2 (put_length m.named args ∙ h.3) }

  -- a value of the struct type
  found : (a : TypeData) (shape : Shape) (args : TypesData) → IsStruct m.shapes a shape args → (v : Val) → has_type m.shapes (put_types m.named a) v ≡ true → Fields m.shapes (put_types m.named a) (fields_at shape (put_types_in m.named args)) v
  found a shape args h v e =
      let at' = met a shape args h in
      let inner = fields_typed m.shapes at'.name (put_types_in m.named args) (fields_at shape (put_types_in m.named args)) at'.types v (subst (λ (x : TypeData). has_type m.shapes x v ≡ true) at'.is e) in
      subst (λ (x : TypeData). Fields m.shapes x (fields_at shape (put_types_in m.named args)) v) (sym at'.is) inner

  map_length : (g : TypeData → TypeData) (fs : List TypeData) → length (map g fs) ≡ length fs
  map_length g [] = refl
  map_length g (f ∷ fs) = ap suc (map_length g fs)

  fields_count : (a : TypeData) (shape : Shape) (args : TypesData) (v : Val) (in' : Fields m.shapes (put_types m.named a) (fields_at shape (put_types_in m.named args)) v) → length (list_of_values in'.values) ≡ length (list_of_types shape.fields)
  fields_count a shape args v in' =
      types_length m.shapes _ in'.values in'.typed ∙ map_length (put_types (argument (put_types_in m.named args))) (list_of_types shape.fields)

  -- each part of a struct has its type exactly when the part's formula is true
  parts_alike : (args : TypesData) (fields : List TypeData) (ts : List TermData) (ps : List FormulaData) → length ts ≡ length fields → length ps ≡ length fields → ((k : ℕ) (f : TypeData) (t : TermData) (p : FormulaData) → k < length fields → IsFieldTyped (list_of_types args) (get_or fields k f) (get_or ts k t) (get_or ps k p)) → have_types m.shapes (map (put_types (argument (put_types_in m.named args))) fields) (values_of_terms m (terms_of ts) s) ≡ all_true m (formulas_of ps) s
  parts_alike args [] [] [] e g h = refl
  parts_alike args [] (t ∷ ts) ps e g h = absurd (omega arith)
  parts_alike args [] [] (p ∷ ps) e g h = absurd (omega arith)
  parts_alike args (f ∷ fields) [] ps e g h = absurd (omega arith)
  parts_alike args (f ∷ fields) (t ∷ ts) [] e g h = absurd (omega arith)
  parts_alike args (f ∷ fields) (t ∷ ts) (p ∷ ps) e g h =
      let first = h 0 f t p (omega arith) in
      let one : has_type m.shapes (put_types (argument (put_types_in m.named args)) f) (V t) ≡ truth_of m p s = ap (λ (x : TypeData). has_type m.shapes x (V t)) (sym (put_twice m.named args f first.0 first.1)) ∙ sym (at first.2) in
      let rest = parts_alike args fields ts ps (omega arith) (omega arith) (λ k f' t' p' k'. h (suc k) f' t' p' (omega arith)) in
      λ i. one i && rest i

  pub struct_axiom_true : (name : StructAxiom) (p : FormulaData) → IsStructAxiom m.shapes name p → truth_of m p s ≡ true
  unfolding HasFields HasField HasFieldType AreFieldsOf AreFieldsTyped ArePartsTyped
  struct_axiom_true FieldOfPack p h =
      let a = put_types m.named h.0 in
      let value : field_value a h.1 (StructValue a (values_of_terms m (terms_of h.2) s)) ≡ V h.3 = field_of a h.1 (values_of_terms m (terms_of h.2) s) ∙ value_at h.2 h.1 h.3 h.5 in
      at h.6 ∙ ap (λ x. same_value x (V h.3)) value ∙ same_value_itself (V h.3)
  struct_axiom_true FieldSet p h =
      let a = put_types m.named h.0 in
      at h.5 ∙ implied _ _ (λ e. let in' = found h.0 h.4.0 h.4.1 h.4.2 (V h.2) e in let value : field_value a h.1 (set_field_value a h.1 (V h.2) (V h.3)) ≡ V h.3 = ap (λ (x : Val). field_value a h.1 (set_field_value a h.1 x (V h.3))) in'.is ∙ field_of_set a h.1 in'.values (V h.3) (let n : length (list_of_values in'.values) ≡ length (list_of_types h.4.0.fields) = fields_count h.0 h.4.0 h.4.1 (V h.2) in' in let k : h.1 < length (list_of_types h.4.0.fields) = h.4.3 in omega arith) in or_left _ false (ap (λ x. same_value x (V h.3)) value ∙ same_value_itself (V h.3)))
  struct_axiom_true FieldOfOther p h =
      let a = put_types m.named h.0 in
      at h.8 ∙ ap (λ x. same_value x (field_value a h.1 (V h.3))) (other_field a h.1 h.2 h.7 (V h.3) (V h.4)) ∙ same_value_itself (field_value a h.1 (V h.3))
  struct_axiom_true PackOfFields p h =
      let a = put_types m.named h.0 in
      at h.5 ∙ implied _ _ (λ e. let in' = found h.0 h.3.0 h.3.1 h.3.2 (V h.2) e in let lengths : length (list_of_values in'.values) ≡ length h.1 = fields_count h.0 h.3.0 h.3.1 (V h.2) in' ∙ h.3.3 in let values : list_of_values in'.values ≡ list_of_values (values_of_terms m (terms_of h.1) s) = ext_get_or NothingValue _ _ (lengths ∙ sym (values_length h.1)) (λ k l. sym (value_in h.1 k (h.2) (omega arith) ∙ ap V (h.4 k h.2 (omega arith)) ∙ ap (field_value a k) in'.is ∙ field_of a k in'.values)) in let same : V h.2 ≡ StructValue a (values_of_terms m (terms_of h.1) s) = in'.is ∙ ap (StructValue a) (sym (values_of-list_of_values in'.values) ∙ ap values_of values ∙ values_of-list_of_values _) in or_left _ false (ap (same_value (V h.2)) (sym same) ∙ same_value_itself (V h.2)))
  struct_axiom_true PackTyped p h =
      let shape = h.3.0 in
      let args = h.3.1 in
      let at' = met h.0 shape args h.3.2 in
      let vs = values_of_terms m (terms_of h.1) s in
      at h.4 ∙ same_truth_itself _ _ (ap (λ (x : TypeData). has_type m.shapes x (StructValue x vs)) at'.is ∙ struct_typed m.shapes at'.name (put_types_in m.named args) _ at'.types vs ∙ parts_alike args (list_of_types shape.fields) h.1 h.2 h.3.3.0 h.3.3.1 h.3.3.2)
  struct_axiom_true FieldTyped p h =
      let a = put_types m.named h.0 in
      at h.5 ∙ implied _ _ (λ e. let in' = found h.0 h.4.0 h.4.1 h.4.3 (V h.2) e in let typed = field_typed m.shapes (put_types (argument (put_types_in m.named h.4.1))) (list_of_types h.4.0.fields) in'.values h.1 h.4.2 in'.typed h.4.4 in let value : field_value a h.1 (V h.2) ≡ get_or (list_of_values in'.values) h.1 NothingValue = ap (field_value a h.1) in'.is ∙ field_of a h.1 in'.values in (λ i. has_type m.shapes (put_twice m.named h.4.1 h.4.2 h.3 h.4.5 i) (value i)) ∙ typed)
