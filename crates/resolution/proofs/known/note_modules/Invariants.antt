use Rattle.std.proofs.Common.{◌≡◌, take}
use Rattle.indexmap.specs.IndexSet.{insert_all}
use Rattle.scopes.specs.MemberNames.{same_module}
use Rattle.scopes.specs.Program.{modules_of}
use Rattle.resolution.proofs.known.note_modules.Given as goal

abbrev pub invariant-loop-tree : goal.invariant-loop-tree
invariant-loop-tree l = l.modules.keys ≡ insert_all same_module l.initial.modules.keys (modules_of l.environment (take l.tree-index l.trees))
