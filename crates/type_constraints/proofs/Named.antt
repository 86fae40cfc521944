-- Names by their numbers.
use Rattle.std.proofs.Common.{◌≡◌, ℕ, List, map, refl, ap, ◌∙◌, Option, Some, None}
use Rattle.std.specs.Prelude.{slice_get}
use Rattle.std.specs.Option.{option_map}
use Rattle.std.proofs.lemmas.Option.{slice_get-map}
use Rattle.base.specs.TypeData.{TypeData, TypesData, list_of_types, types_of, list_of_types-types_of}
use Rattle.program.specs.declared.declaration.TypedName.{TypedName}
use Rattle.typing_rules.specs.Clauses.{spec_types_of}
use Rattle.typing_rules.specs.Instances.{instance, argument_in, spec_type}
use Rattle.typing_rules.specs.SpecConstraints.{read_there}
use Rattle.type_constraints.specs.declared.spec.setting.LetType.{LetType}
use Rattle.type_constraints.specs.SpecSettings.{let_of, lets_of}

option_twice : {A B C : Type 0} (g : B → C) (f : A → B) (o : Option A) → option_map g (option_map f o) ≡ option_map (λ x. g (f x)) o
option_twice g f None = refl
option_twice g f (Some x) = refl

pub names_at : (names : List TypedName) (k : ℕ) → slice_get (spec_types_of names) k ≡ option_map (λ n. spec_type n.annotation) (slice_get names k)
names_at names k = slice_get-map (λ n. spec_type n.annotation) names k

pub variables_at : (names : List TypedName) (types : TypesData) (k : ℕ) → slice_get (map (instance (argument_in types)) (spec_types_of names)) k ≡ option_map (λ n. read_there types n.annotation) (slice_get names k)
variables_at names types k =
    slice_get-map (instance (argument_in types)) (spec_types_of names) k
    ∙ ap (option_map (instance (argument_in types))) (names_at names k)
    ∙ option_twice (instance (argument_in types)) (λ n. spec_type n.annotation) (slice_get names k)

pub terms_at : (terms : List TypeData) (k : ℕ) → slice_get (map spec_type terms) k ≡ option_map spec_type (slice_get terms k)
terms_at terms k = slice_get-map spec_type terms k

pub lets_at : (lets : List (Option LetType)) (k : ℕ) → slice_get (lets_of lets) k ≡ option_map let_of (slice_get lets k)
lets_at lets k = slice_get-map let_of lets k

pub parts_at : (terms : List TypeData) (k : ℕ) → slice_get (map spec_type (list_of_types (types_of terms))) k ≡ option_map spec_type (slice_get terms k)
parts_at terms k = ap (λ ts. slice_get (map spec_type ts) k) (list_of_types-types_of terms) ∙ terms_at terms k
