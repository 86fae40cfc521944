use Rattle.std.proofs.Common.{◌≡◌, take}
use Rattle.scopes.proofs.module_uses.copy.Given as goal

abbrev pub invariant-loop-name : goal.invariant-loop-name
invariant-loop-name l = l.copied ≡ take l.name-index l.names
