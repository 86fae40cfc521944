use Rattle.std.proofs.Common.{nat_eq, take}
use Rattle.indexmap.specs.IndexMap.{get}
use Rattle.step_checks.proofs.NamingLemmas.{IsFollowed}
use Rattle.step_checks.proofs.values.naming.follows.Given as goal

abbrev pub invariant-loop-number : goal.invariant-loop-number
invariant-loop-number l = IsFollowed (take l.number-index l.numbers) l.first l.second (get nat_eq l.found)
