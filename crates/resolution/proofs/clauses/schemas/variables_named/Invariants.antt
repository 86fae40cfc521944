use Rattle.std.proofs.Common.{◌≡◌, Some, take}
use Rattle.resolution.specs.Parameters.{typed_names}
use Rattle.resolution.specs.SpecDeclarations.{variables_in}
use Rattle.resolution.proofs.clauses.schemas.variables_named.Given as goal

abbrev pub invariant-loop-tree : goal.invariant-loop-tree
invariant-loop-tree l = typed_names (record { environment = l.context.environment.now; parameters = l.context.parameters.now; is_spec = l.context.is_spec }) (variables_in (take l.tree-index l.trees)) ≡ Some l.variables
