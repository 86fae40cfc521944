use Rattle.std.proofs.Common.{◌≡◌, take}
use Rattle.std.specs.List.{flat_map}
use Rattle.indexmap.specs.IndexSet.{insert_all}
use Rattle.scopes.specs.MemberNames.{same_module}
use Rattle.scopes.specs.Program.{builtin_modules, modules_of}
use Rattle.resolution.proofs.known.all_modules.Given as goal

abbrev pub invariant-loop-source : goal.invariant-loop-source
invariant-loop-source l = l.modules.keys ≡ insert_all same_module builtin_modules (flat_map (modules_of l.environment) (take l.source-index l.sources))
