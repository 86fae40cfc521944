use Rattle.std.proofs.Common.{◌≡◌, [], take}
use Rattle.std.specs.List.{flat_map}
use Rattle.scopes.specs.Brings.{firsts}
use Rattle.resolution.specs.Setting.{same_schema}
use Rattle.resolution.specs.Known.{schemas_of}
use Rattle.resolution.proofs.known.all_schemas.Given as goal

abbrev pub invariant-loop-source : goal.invariant-loop-source
invariant-loop-source l = l.schemas ≡ firsts same_schema [] (flat_map (schemas_of l.environment) (take l.source-index l.sources))
