use Rattle.std.proofs.Common.{◌≡◌, take}
use Rattle.scopes.specs.Brings.{firsts}
use Rattle.scopes.specs.MemberNames.{same_module}
use Rattle.scopes.specs.Uses.{source_uses}
use Rattle.scopes.proofs.module_uses.note_modules.Given as goal

abbrev pub invariant-loop-tree : goal.invariant-loop-tree
invariant-loop-tree l = l.uses ≡ firsts same_module l.initial.uses (source_uses l.environment (take l.tree-index l.trees))
