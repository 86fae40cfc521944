-- What a clause includes, by the types of its type arguments.
use Rattle.std.proofs.Common.{◌≡◌, ℕ, ◌+◌, ◌-◌, ◌<◌, ◌≤◌, List, length, get_or, Option, Some, None, refl, sym, ◌∙◌, ap, subst, arith}
use Rattle.std.specs.Prelude.{slice_get}
use Rattle.std.specs.Map.{lookup}
use Rattle.std.proofs.lemmas.Option.{slice_get-get_or}
use Rattle.base.specs.TypeData.{TypeData, TypesData, TupleType, NoTypes, list_of_types, types_of, list_of_types-types_of}
use Rattle.program.specs.declared.clause.ClauseForm.{ClauseForm}
use Rattle.program.specs.declared.clause.ClauseForm.TheVariants.{Include}
use Rattle.program.specs.declared.declaration.Schema.{Schema}
use Rattle.program.specs.declared.program.Program.{Program}
use Rattle.program.specs.declared.program.SchemaId.{SchemaId}
use Rattle.program.specs.Same.{same_schema}
use Rattle.typing_rules.specs.Answers.{HasType}
use Rattle.typing_rules.specs.Clauses as C
use Rattle.typing_rules.specs.SpecConstraints.{spec_variable_count}
use Rattle.typing_rules.specs.Faults.{Stated, stated_system}
use Rattle.type_check.specs.ClausesInstances.{Instance, Includes}
use Rattle.type_check.specs.Lets.{ArgumentsSay}

some_inside : {A : Type 0} (x y : A) → Some x ≡ Some y → x ≡ y
some_inside x y e = cc

schema_inside : (s t : SchemaId) (ts us : TypesData) (xs ys : List ℕ) → Include s ts xs ≡ Include t us ys → s ≡ t
schema_inside s t ts us xs ys e = cc

module _ (program : Program) (c : Stated) where
  abbrev pub first_variable : ℕ
  first_variable = spec_variable_count (C.clause_setting program c.names c.block c.types c.clause)

  -- the declaration of the included schema
  same_lookup : (schema : SchemaId) (written : TypesData) (given : List ℕ) (i : Instance) → c.clause.form ≡ Include schema written given → (h : Includes program c i)
      → lookup (same_schema schema) program.schemas ≡ Some h.declared
  same_lookup schema written given i form h =
      subst (λ (s : SchemaId). lookup (same_schema s) program.schemas ≡ Some h.declared)
      (schema_inside i.schema schema h.types written h.given given (sym h.form_is ∙ form)) h.lookup_is

  pub variables_are : (schema : SchemaId) (written : TypesData) (given : List ℕ) (declared : Schema) → c.clause.form ≡ Include schema written given
      → lookup (same_schema schema) program.schemas ≡ Some declared → (stated_system program c).variables ≡ first_variable + length declared.type_parameters
  variables_are schema written given declared form found =
      ap (λ (f : ClauseForm). first_variable + C.form_arguments program f) form ∙ ap (λ (d : Option Schema). first_variable + C.schema_arity d) found

  pub undeclared : (schema : SchemaId) (written : TypesData) (given : List ℕ) → c.clause.form ≡ Include schema written given
      → lookup (same_schema schema) program.schemas ≡ None → (i : Instance) → Includes program c i → ⊥
  undeclared schema written given form found i h =
      (let e : None ≡ Some h.declared = sym found ∙ same_lookup schema written given i form h in absurd cc)

  pub untyped : (schema : SchemaId) (written : TypesData) (given : List ℕ) (declared : Schema) → c.clause.form ≡ Include schema written given
      → lookup (same_schema schema) program.schemas ≡ Some declared → ArgumentsSay (stated_system program c) first_variable (first_variable + length declared.type_parameters) None
      → (i : Instance) → Includes program c i → ⊥
  untyped schema written given declared form found says i h =
      let d : TypeData = TupleType NoTypes in
      let k : ℕ = says.0 - first_variable in
      let begins : first_variable ≤ says.0 = says.1.0 in
      let ends : says.0 < first_variable + length declared.type_parameters = says.1.1 in
      let same : h.declared ≡ declared = some_inside h.declared declared (sym (same_lookup schema written given i form h) ∙ found) in
      let size : length declared.type_parameters ≡ length (list_of_types i.types) = ap (λ (s : Schema). length s.type_parameters) (sym same) ∙ h.same_length in
      let below : k < length (list_of_types i.types) = omega (arith, begins, ends, size) in
      let of = h.arguments k (get_or (list_of_types i.types) k d) (slice_get-get_or (list_of_types i.types) k d below) in
      says.1.2 _ (subst (λ (q : ℕ). HasType (stated_system program c) q (get_or (list_of_types i.types) k d)) (omega (arith, begins)) of)

  pub typed : (schema : SchemaId) (written : TypesData) (given : List ℕ) (declared : Schema) (types : List TypeData) → c.clause.form ≡ Include schema written given
      → lookup (same_schema schema) program.schemas ≡ Some declared → ArgumentsSay (stated_system program c) first_variable (first_variable + length declared.type_parameters) (Some types)
      → Includes program c (record { schema = schema; types = types_of types; block = c.block })
  typed schema written given declared types form found says = record {
    types = written;
    given = given;
    form_is = form;
    declared = declared;
    lookup_is = found;
    same_length = (let size = says.0 in let same : length (list_of_types (types_of types)) ≡ length types = ap (λ (ts : List TypeData). length ts) (list_of_types-types_of types) in omega (arith, size, same));
    arguments = λ k of e. says.1 k of (ap (λ (ts : List TypeData). slice_get ts k) (sym (list_of_types-types_of types)) ∙ e);
    block_is = refl;
  }

  pub no_include : ((schema : SchemaId) (written : TypesData) (given : List ℕ) → c.clause.form ≡ Include schema written given → ⊥) → (i : Instance) → Includes program c i → ⊥
  no_include none i h = none i.schema h.types h.given h.form_is

-- the types of the type arguments, however their number was obtained
pub known_arguments : (program : Program) (c : Stated) (declared : Schema) (count : ℕ) (given known : Option (List TypeData)) → count ≡ length declared.type_parameters → given ≡ known
    → ArgumentsSay (stated_system program c) (first_variable program c) (first_variable program c + count) given
    → ArgumentsSay (stated_system program c) (first_variable program c) (first_variable program c + length declared.type_parameters) known
known_arguments program c declared count given known size same says =
    subst (λ (n : ℕ). ArgumentsSay (stated_system program c) (first_variable program c) (first_variable program c + n) known) size
    (subst (λ (o : Option (List TypeData)). ArgumentsSay (stated_system program c) (first_variable program c) (first_variable program c + count) o) same says)
