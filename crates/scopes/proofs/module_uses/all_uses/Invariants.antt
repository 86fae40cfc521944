use Rattle.std.proofs.Common.{◌≡◌, take}
use Rattle.scopes.specs.Uses.{all_uses}
use Rattle.scopes.proofs.module_uses.all_uses.Given as goal

abbrev pub invariant-loop-source : goal.invariant-loop-source
invariant-loop-source l = l.uses ≡ all_uses l.environment (take l.source-index l.sources)
