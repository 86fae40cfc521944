use Rattle.std.proofs.Common.{◌≡◌, ◌++◌, take}
use Rattle.std.specs.List.{flat_map}
use Rattle.scopes.specs.Brings.{module_name_of}
use Rattle.scopes.proofs.modules.brings.push_module_names.Given as goal

abbrev pub invariant-loop-import : goal.invariant-loop-import
invariant-loop-import l = l.names.items ≡ l.initial.names.items ++ flat_map (module_name_of l.name) (take l.import-index l.imports)
