use Rattle.std.proofs.Common.{take, nat_eq}
use Rattle.indexmap.specs.IndexMap.{get}
use Rattle.tableau.specs.PoolBranches.{branch_in}
use Rattle.tableau.specs.Graphs.{IsLinking}
use Rattle.tableau.proofs.aliasing.groups.groups.Given as goal

abbrev pub invariant-loop-number : goal.invariant-loop-number
invariant-loop-number l =
    IsLinking l.pool (branch_in l.pool l.branch) l.classes (take l.number-index l.terms) l.graph (get nat_eq l.firsts)
