-- The reader of type parameters.
use Rattle.std.specs.Prelude.{Bool, true, false, if◌then◌else◌, List, Option, Some, None, option_and_then, codes}
use Rattle.std.specs.Option.{option_map, option_map_or}
use Rattle.tokens.specs.declared.token.Token.{Token}
use Rattle.tokens.specs.declared.token.Punctuation.TheVariants.{Less, Greater}
use Rattle.syntax_tree.specs.MemberData.{TypeParameterData, TypeParametersData}
use Rattle.parser_base.specs.TokenReading.{Read, after_sign, after_word, identifier_at}
use Rattle.parser_base.specs.ListReading.{some_items_at}
use Rattle.parser_base.specs.AbilityReading.{constraint_at}

-- a parameter after `phantom`, or without it
unfoldable pub named_parameter_at : Bool → List Token → Read TypeParameterData
named_parameter_at is_phantom ts = option_and_then (λ name. option_map (λ c. (record { is_phantom = is_phantom; name = name.0; abilities = c.0 }, c.1)) (constraint_at name.1)) (identifier_at ts)

-- `phantom` is allowed only before a parameter of a struct
unfoldable pub parameter_at : Bool → List Token → Read TypeParameterData
parameter_at of_struct ts = option_map_or (λ rest. if of_struct then named_parameter_at true rest else None) (after_word (codes "phantom") ts) (named_parameter_at false ts)

-- parameters after their `<`
unfoldable pub listed_parameters_at : Bool → List Token → Read TypeParametersData
listed_parameters_at of_struct ts = option_map (λ items. (record { items = items.0.0; last_comma = items.0.1 }, items.1)) (some_items_at (after_sign Greater) (parameter_at of_struct) ts)

unfoldable pub parameters_at : Bool → List Token → Read (Option TypeParametersData)
parameters_at of_struct ts = option_map_or (λ inside. option_map (λ p. (Some p.0, p.1)) (listed_parameters_at of_struct inside)) (after_sign Less ts) (Some (None, ts))
