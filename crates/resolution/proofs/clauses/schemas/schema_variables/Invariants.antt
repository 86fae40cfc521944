use Rattle.std.proofs.Common.{◌≡◌, take}
use Rattle.resolution.specs.SpecDeclarations.{schema_variables}
use Rattle.resolution.proofs.clauses.schemas.schema_variables.Given as goal

abbrev pub invariant-loop-tree : goal.invariant-loop-tree
invariant-loop-tree l = l.names ≡ schema_variables (take l.tree-index l.trees)
