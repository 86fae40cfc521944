use Rattle.std.proofs.Common.{◌≡◌, take}
use Rattle.body_names.proofs.code.loops.copy_scope.Given as goal

abbrev pub invariant-loop-one : goal.invariant-loop-one
invariant-loop-one l = l.copy ≡ take l.one-index l.scope
