use Rattle.std.proofs.Common.{length, ap}
use Rattle.type_constraints.proofs.Sums.{variables_step}
use Rattle.type_constraints.proofs.spec.variables.variable_count.Goals as goal

pub loop-index-preserved : goal.loop-index-preserved
loop-index-preserved c =
    variables_step c.args.body.now.nodes c.loop-index.index c.node.result.now c.loop-index.count (length c.binds_in-binds.result.now) c.in_ok-count.count
    c.node.ensures.node c.loop-index.invariant (ap length c.binds_in-binds.ensures) c.in_ok-count.ensures
