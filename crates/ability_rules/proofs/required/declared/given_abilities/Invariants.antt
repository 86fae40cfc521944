use Rattle.std.proofs.Common.{◌≡◌, take}
use Rattle.typing_rules.specs.Required.{given_abilities}
use Rattle.ability_rules.proofs.required.declared.given_abilities.Given as goal

abbrev pub invariant-loop-parameter : goal.invariant-loop-parameter
invariant-loop-parameter l = l.given.items ≡ given_abilities (take l.parameter-index l.parameters)
