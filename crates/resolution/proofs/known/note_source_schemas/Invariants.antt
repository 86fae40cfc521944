use Rattle.std.proofs.Common.{◌≡◌, take}
use Rattle.scopes.specs.Brings.{firsts}
use Rattle.resolution.specs.Setting.{same_schema}
use Rattle.resolution.specs.Known.{schemas_of}
use Rattle.resolution.proofs.known.note_source_schemas.Given as goal

abbrev pub invariant-loop-tree : goal.invariant-loop-tree
invariant-loop-tree l = l.schemas ≡ firsts same_schema l.initial.schemas (schemas_of l.environment (take l.tree-index l.trees))
