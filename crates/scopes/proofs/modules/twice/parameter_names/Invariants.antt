use Rattle.std.proofs.Common.{◌≡◌, map, take}
use Rattle.scopes.proofs.modules.twice.parameter_names.Given as goal

abbrev pub invariant-loop-parameter : goal.invariant-loop-parameter
invariant-loop-parameter l = l.found.items ≡ map (λ p. p.name.text) (take l.parameter-index l.parameters)
