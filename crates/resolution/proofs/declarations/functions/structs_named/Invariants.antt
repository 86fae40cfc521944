use Rattle.std.proofs.Common.{◌≡◌, Some, take}
use Rattle.scopes.specs.Meanings.{each, struct_meaning}
use Rattle.resolution.proofs.declarations.functions.structs_named.Given as goal

abbrev pub invariant-loop-path : goal.invariant-loop-path
invariant-loop-path l = each (struct_meaning l.environment) (take l.path-index l.paths) ≡ Some l.structs
