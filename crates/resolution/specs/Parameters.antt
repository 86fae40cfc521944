-- Abilities, type parameters, and names with their types.
-- Source: The Move Book, "Abilities", "Generics", "Functions" and "Structs".
use Rattle.std.specs.Prelude.{ℕ, Bool, true, false, List, [], map, Option, Some, None}
use Rattle.std.specs.List.{list_any}
use Rattle.std.specs.Option.{option_map}
use Rattle.syntax_tree.specs.declared.member.Ability.{Ability}
use Rattle.syntax_tree.specs.declared.member.Ability.TheVariants.{Copy, Drop, Store, Key}
use Rattle.syntax_tree.specs.declared.member.TypedName.{TypedName as TypedNameTree}
use Rattle.syntax_tree.specs.MemberData.{AbilitiesData, TypeParameterData, TypeParametersData}
use Rattle.program.specs.declared.declaration.AbilitySet.{AbilitySet}
use Rattle.program.specs.declared.declaration.TypeParameter.{TypeParameter}
use Rattle.program.specs.declared.declaration.TypedName.{TypedName}
use Rattle.scopes.specs.EnvironmentData.{EnvironmentData}
use Rattle.scopes.specs.Meanings.{each}
use Rattle.scopes.specs.TypeMeanings.{TypeScope, type_meaning}

abbrev pub same_ability : Ability → Ability → Bool
same_ability Copy Copy = true
same_ability Drop Drop = true
same_ability Store Store = true
same_ability Key Key = true
same_ability _ _ = false

-- the ability is among the listed ones
abbrev pub has : List Ability → Ability → Bool
has abilities a = list_any (same_ability a) abilities

abbrev pub abilities_of : List Ability → AbilitySet
abilities_of abilities = record { has_copy = has abilities Copy; has_drop = has abilities Drop; has_store = has abilities Store; has_key = has abilities Key }

abbrev pub listed_abilities : Option AbilitiesData → List Ability
listed_abilities None = []
listed_abilities (Some abilities) = abilities.items

abbrev pub type_parameter_of : TypeParameterData → TypeParameter
type_parameter_of p = record { name = p.name.text; abilities = abilities_of p.abilities; is_phantom = p.is_phantom }

abbrev pub listed_parameters : Option TypeParametersData → List TypeParameterData
listed_parameters None = []
listed_parameters (Some parameters) = parameters.items

abbrev pub type_name_of : TypeParameterData → List ℕ
type_name_of p = p.name.text

abbrev pub type_parameters_of : Option TypeParametersData → List TypeParameter
type_parameters_of parameters = map type_parameter_of (listed_parameters parameters)

abbrev pub type_names_of : Option TypeParametersData → List (List ℕ)
type_names_of parameters = map type_name_of (listed_parameters parameters)

-- with these type parameters in scope
abbrev pub among : EnvironmentData → Option TypeParametersData → TypeScope
among env parameters = record { environment = env; parameters = type_names_of parameters; is_spec = false }

-- a name with the meaning of its type
abbrev pub typed_meaning : TypeScope → TypedNameTree → Option TypedName
typed_meaning scope n = option_map (λ t. record { name = n.name.text; annotation = t }) (type_meaning scope n.annotation)

abbrev pub typed_names : TypeScope → List TypedNameTree → Option (List TypedName)
typed_names scope names = each (typed_meaning scope) names
