use Rattle.std.proofs.Common.{◌≡◌, ◌++◌, take}
use Rattle.std.specs.List.{flat_map}
use Rattle.scopes.specs.Brings.{import_brings}
use Rattle.scopes.proofs.modules.brings.push_imports.Given as goal

abbrev pub invariant-loop-import : goal.invariant-loop-import
invariant-loop-import l = l.into.entries.items ≡ l.initial.into.entries.items ++ flat_map (import_brings l.environment l.owner) (take l.import-index l.imports)
