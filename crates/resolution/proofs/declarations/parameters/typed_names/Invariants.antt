use Rattle.std.proofs.Common.{◌≡◌, Some, take}
use Rattle.scopes.specs.Meanings.{each}
use Rattle.resolution.specs.Parameters.{typed_meaning}
use Rattle.resolution.proofs.declarations.parameters.typed_names.Given as goal

abbrev pub invariant-loop-name : goal.invariant-loop-name
invariant-loop-name l = each (typed_meaning (record { environment = l.context.environment.now; parameters = l.context.parameters.now; is_spec = l.context.is_spec })) (take l.name-index l.names) ≡ Some l.found
