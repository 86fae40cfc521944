use Rattle.std.proofs.Common.{◌≡◌, ◌++◌, map, take}
use Rattle.resolution.specs.Around.{local_around}
use Rattle.resolution.proofs.clauses.around.enter_locals.Given as goal

abbrev pub invariant-loop-local : goal.invariant-loop-local
invariant-loop-local l = l.into ≡ l.initial.into ++ map local_around (take l.local-index l.locals)
