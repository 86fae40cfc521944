use Rattle.std.proofs.Common.{◌+◌, subst, sym}
use Rattle.definite_assignment.specs.Tables.{IsUnreached}
use Rattle.definite_assignment.proofs.Tabled.{unreached_none, unreached_more}
use Rattle.definite_assignment.proofs.points.no_states.Goals as goal

pub loop-init : goal.loop-init
loop-init c = subst (IsUnreached 0) (sym c.new-table.ensures.items) unreached_none

pub loop-preserved : goal.loop-preserved
loop-preserved c =
    subst (IsUnreached (c.loop.counter + 1)) (sym c.in_ok-push.ensures.items)
    (unreached_more c.loop.counter c.loop.table.items c.none.result c.loop.invariant c.none.ensures)
