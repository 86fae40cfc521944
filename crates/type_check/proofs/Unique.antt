-- What is determined: the type of a type variable, the `let`s of an owner, and the instance that a clause includes.
use Rattle.std.proofs.Common.{◌≡◌, ℕ, zero, suc, ◌+◌, ◌<◌, ◌≤◌, get_or, List, [], ◌∷◌, ◌++◌, length, take, Option, Some, None, refl, sym, ◌∙◌, ap, subst, arith}
use Rattle.std.specs.Prelude.{slice_get}
use Rattle.std.proofs.Math.Seq.{take-suc}
use Rattle.std.proofs.lemmas.List.{take_all, ext_get_or}
use Rattle.std.proofs.lemmas.Option.{slice_get-get_or}
use Rattle.base.specs.TypeData.{TypeData, TypesData, TupleType, NoTypes, list_of_types, types_of, types_of-list_of_types}
use Rattle.std.specs.Map.{lookup}
use Rattle.program.specs.Same.{same_schema}
use Rattle.program.specs.declared.clause.Clause.{Clause}
use Rattle.program.specs.declared.clause.ClauseForm.TheVariants.{Include}
use Rattle.program.specs.declared.declaration.Schema.{Schema}
use Rattle.program.specs.declared.program.Program.{Program}
use Rattle.program.specs.declared.program.SchemaId.{SchemaId}
use Rattle.typing_rules.specs.Answers.{System, HasType}
use Rattle.typing_rules.specs.Clauses.{Block, LetType, AreLets, schema_arity}
use Rattle.typing_rules.specs.Faults.{Stated, stated_system}
use Rattle.type_check.specs.ClausesInstances.{Instance, Includes}

pub one_type : (s : System) (p : ℕ) (a b : TypeData) → HasType s p a → HasType s p b → a ≡ b
one_type s p a b h k = sym (h.each h.typing h.settled) ∙ k.each h.typing h.settled

-- ---- lets

some_inside : {A : Type 0} (x y : A) → Some x ≡ Some y → x ≡ y
some_inside x y e = cc

module _ (system : List (Option LetType) → Clause → System) (clauses : List Clause) where
  -- if the `let`s before are equal, a `let` of one list is one of the other
  known_too : (a b : List (Option LetType)) → AreLets system clauses a → AreLets system clauses b → (k : ℕ) → take k a ≡ take k b
      → (l : LetType) → slice_get a k ≡ Some (Some l) → slice_get b k ≡ Some (Some l)
  known_too a b of_a of_b k same l e =
      let w = of_a.known k l.0 l.1 e in
      of_b.typed k w.0 l.0 w.1 l.1 w.2 w.3 (subst (λ (before : List (Option LetType)). HasType (system before w.0) w.1 l.1) same w.4)

  no_other : {A : Type 0} (l : LetType) → Some None ≡ Some (Some l) → A
  no_other l e = absurd (let f : None ≡ Some l = some_inside None (Some l) e in cc)

  one_at : (a b : List (Option LetType)) → AreLets system clauses a → AreLets system clauses b → (k : ℕ) → take k a ≡ take k b
      → (x y : Option LetType) → slice_get a k ≡ Some x → slice_get b k ≡ Some y → x ≡ y
  one_at a b of_a of_b k same None None e f = refl
  one_at a b of_a of_b k same (Some l) y e f = some_inside (Some l) y (sym (known_too a b of_a of_b k same l e) ∙ f)
  one_at a b of_a of_b k same None (Some l) e f = no_other l (sym e ∙ known_too b a of_b of_a k (sym same) l f)

  same_first : (a b : List (Option LetType)) → AreLets system clauses a → AreLets system clauses b → (k : ℕ) → k ≤ length clauses → take k a ≡ take k b
  same_first a b of_a of_b zero le = refl
  same_first a b of_a of_b (suc k) le =
      let first = of_a.same_length in
      let second = of_b.same_length in
      let in_a : k < length a = omega (arith, le, first) in
      let in_b : k < length b = omega (arith, le, second) in
      let same = same_first a b of_a of_b k (omega (arith, le)) in
      take-suc a k None in_a
      ∙ ap (λ (xs : List (Option LetType)). xs ++ get_or a k None ∷ []) same
      ∙ ap (λ (x : Option LetType). take k b ++ x ∷ []) (one_at a b of_a of_b k same _ _ (slice_get-get_or a k None in_a) (slice_get-get_or b k None in_b))
      ∙ sym (take-suc b k None in_b)

  pub one_lets : (a b : List (Option LetType)) → AreLets system clauses a → AreLets system clauses b → a ≡ b
  one_lets a b of_a of_b =
      let first = of_a.same_length in
      let second = of_b.same_length in
      sym (take_all (length clauses) a (omega (arith, first)))
      ∙ same_first a b of_a of_b (length clauses) (omega arith)
      ∙ take_all (length clauses) b (omega (arith, second))

-- ---- included schemas

schema_inside : (s t : SchemaId) (ts us : TypesData) (xs ys : List ℕ) → Include s ts xs ≡ Include t us ys → s ≡ t
schema_inside s t ts us xs ys e = cc

one_declared : (d e : Schema) (o : Option Schema) → o ≡ Some d → o ≡ Some e → d ≡ e
one_declared d e o p q = some_inside d e (sym p ∙ q)

same_types : (s : System) (first : ℕ) (a b : List TypeData) → length a ≡ length b
    → ((k : ℕ) (of : TypeData) → slice_get a k ≡ Some of → HasType s (first + k) of)
    → ((k : ℕ) (of : TypeData) → slice_get b k ≡ Some of → HasType s (first + k) of) → a ≡ b
same_types s first a b same of_a of_b =
    let d : TypeData = TupleType NoTypes in
    ext_get_or d a b same (λ k lt.
    one_type s (first + k) _ _ (of_a k (get_or a k d) (slice_get-get_or a k d lt)) (of_b k (get_or b k d) (slice_get-get_or b k d (omega (arith, lt, same)))))

abbrev instance_with : SchemaId → TypesData → Block → Instance
instance_with s ts a = record { schema = s; types = ts; block = a }

instance_same : (s t : SchemaId) (ts us : TypesData) (a b : Block) → s ≡ t → ts ≡ us → a ≡ b
    → instance_with s ts a ≡ instance_with t us b
instance_same s t ts us a b e f g = λ i. record { schema = e i; types = f i; block = g i }

pub one_instance : (program : Program) (c : Stated) (i j : Instance) → Includes program c i → Includes program c j → i ≡ j
one_instance program c i j a b =
    let schema : i.schema ≡ j.schema = schema_inside i.schema j.schema a.types b.types a.given b.given (sym a.form_is ∙ b.form_is) in
    let declared : a.declared ≡ b.declared = one_declared a.declared b.declared _ (subst (λ (s : SchemaId). lookup (same_schema s) program.schemas ≡ Some a.declared) schema a.lookup_is) b.lookup_is in
    let size : length (list_of_types i.types) ≡ length (list_of_types j.types) = sym a.same_length ∙ ap (λ (d : Schema). schema_arity (Some d)) declared ∙ b.same_length in
    let types : list_of_types i.types ≡ list_of_types j.types = same_types (stated_system program c) _ _ _ size a.arguments b.arguments in
    instance_same i.schema j.schema i.types j.types i.block j.block schema
    (sym (types_of-list_of_types i.types) ∙ ap types_of types ∙ types_of-list_of_types j.types)
    (a.block_is ∙ sym b.block_is)
