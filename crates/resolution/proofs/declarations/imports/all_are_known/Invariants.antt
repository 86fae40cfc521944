use Rattle.std.proofs.Common.{◌≡◌, drop}
use Rattle.std.specs.List.{list_all}
use Rattle.resolution.specs.Imports.{import_is_known}
use Rattle.resolution.proofs.declarations.imports.all_are_known.Given as goal

abbrev pub invariant-loop-import : goal.invariant-loop-import
invariant-loop-import l = list_all (import_is_known l.environment l.owner) l.imports ≡ list_all (import_is_known l.environment l.owner) (drop l.import-index l.imports)
