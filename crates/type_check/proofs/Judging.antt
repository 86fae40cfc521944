-- Which rules a clause breaks.
use Rattle.std.proofs.Common.{◌≡◌, ◌⊎◌, inl, inr, ℕ, Bool, true, false, not, ◌||◌, List, Option, Some, None, refl, sym, ap, ◌∙◌, subst}
use Rattle.std.specs.Prelude.{◌↔◌, IsTrue}
use Rattle.std.specs.Map.{lookup}
use Rattle.base.specs.TypeData.{TypesData}
use Rattle.program.specs.declared.clause.ClauseForm.{ClauseForm}
use Rattle.program.specs.declared.clause.ClauseForm.TheVariants.{Include}
use Rattle.program.specs.declared.declaration.Schema.{Schema}
use Rattle.program.specs.declared.program.Program.{Program}
use Rattle.program.specs.declared.program.SchemaId.{SchemaId}
use Rattle.program.specs.Same.{same_schema}
use Rattle.typing_rules.specs.Faults.{variables_are_proper}
use Rattle.type_check.specs.Judged.{IncludesImproper}
use Rattle.base.specs.TypeData.{TypeData}
use Rattle.typing_rules.specs.declared.type_pool.PoolType.{PoolType}
use Rattle.typing_rules.specs.Answers.{System, IsTyped, IsAmbiguous, IsUntypable}
use Rattle.body_types.specs.SpecTyped.{SpecTypingSays}
use Rattle.body_types.specs.declared.spec.typing.SpecTyping.{SpecTyping}
use Rattle.body_types.specs.declared.spec.typing.SpecTyping.TheVariants.{Untypable, Ambiguous, Typed}

typed_not_ambiguous : (s : System) (types : List TypeData) → IsTyped s types → IsAmbiguous s → ⊥
typed_not_ambiguous s types typed ambiguous = elim ambiguous.why [
  | inl head ↦ typed.whole head
  | inr span ↦ (let h = typed.each span.0 span.1 in span.2 (λ t u a b. h.each t a ∙ sym (h.each u b)))
]

pub not_ambiguous : (s : System) (pool : List PoolType) (typing : SpecTyping) → SpecTypingSays s pool typing → ((x : _) → typing ≡ Ambiguous x → ⊥) → IsAmbiguous s → ⊥
not_ambiguous s pool Untypable says other ambiguous = says ambiguous.exists.0 ambiguous.exists.1
not_ambiguous s pool (Ambiguous x) says other ambiguous = other x refl
not_ambiguous s pool (Typed x) says other ambiguous = typed_not_ambiguous s _ says.0 ambiguous

-- ---- schemas that may not be included

schema_is : (s t : SchemaId) (ts us : TypesData) (xs ys : List ℕ) → Include s ts xs ≡ Include t us ys → s ≡ t
schema_is s t ts us xs ys e = cc

same_declared : (d e : Schema) (o : Option Schema) → Some d ≡ o → o ≡ Some e → d ≡ e
same_declared d e o p q = cc

not_false : (b : Bool) → IsTrue (not b) → b ≡ false
not_false true h = absurd cc
not_false false h = refl

false_not : (b : Bool) → b ≡ false → IsTrue (not b)
false_not true h = absurd cc
false_not false h = refl

pub improper_if : (program : Program) (form : ClauseForm) (schema : SchemaId) (types : TypesData) (given : List ℕ) (declared : Schema) (b : Bool) → form ≡ Include schema types given
    → Some declared ≡ lookup (same_schema schema) program.schemas → b ≡ variables_are_proper program declared → IsTrue (not b) ↔ IncludesImproper program form
improper_if program form schema types given declared b is found known = (
  (λ h. record {
    schema = schema;
    types = types;
    given = given;
    form_is = is;
    declared = declared;
    lookup_is = sym found;
    improper = sym known ∙ not_false b h;
  }),
  (λ h.
      let same : h.schema ≡ schema = schema_is h.schema schema h.types types h.given given (sym h.form_is ∙ is) in
      let one : declared ≡ h.declared = same_declared declared h.declared _ found (subst (λ (s : SchemaId). lookup (same_schema s) program.schemas ≡ Some h.declared) same h.lookup_is) in
      false_not b (known ∙ ap (λ (d : Schema). variables_are_proper program d) one ∙ h.improper)),
)

pub not_improper : (program : Program) (form : ClauseForm) (schema : SchemaId) (types : TypesData) (given : List ℕ) → form ≡ Include schema types given
    → lookup (same_schema schema) program.schemas ≡ None → IsTrue false ↔ IncludesImproper program form
not_improper program form schema types given is none = (
  (λ h. absurd cc),
  (λ h.
      let same : h.schema ≡ schema = schema_is h.schema schema h.types types h.given given (sym h.form_is ∙ is) in
      let e : None ≡ Some h.declared = sym none ∙ subst (λ (s : SchemaId). lookup (same_schema s) program.schemas ≡ Some h.declared) same h.lookup_is in
      absurd cc),
)

-- ---- the whole judgment of a clause

pub or_untyped : (s : System) (program : Program) (form : ClauseForm) (first second : Bool) → (IsTrue first ↔ IsUntypable s) → (IsTrue second ↔ IncludesImproper program form)
    → IsTrue (first || second) ↔ (IsUntypable s ⊎ IncludesImproper program form)
or_untyped s program form true second a b = ((λ h. inl (a.0 refl)), (λ h. refl))
or_untyped s program form false second a b = (
  (λ h. inr (b.0 h)),
  (λ h. elim h [ inl x ↦ (let e : false ≡ true = a.1 x in absurd cc) | inr y ↦ b.1 y ]),
)
