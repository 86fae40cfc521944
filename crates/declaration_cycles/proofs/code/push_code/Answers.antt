use Rattle.declaration_cycles.specs.Naming.{homes_in_node}
use Rattle.declaration_cycles.proofs.Naming.{pushed}
use Rattle.declaration_cycles.proofs.code.push_code.Goals as goal

pub loop-index-preserved : goal.loop-index-preserved
loop-index-preserved c =
    pushed homes_in_node c.args.body.now.nodes c.loop-index.index c.node.result.now _ c.loop-index.into.items _ c.node.ensures.node c.loop-index.invariant c.in_ok-push_node.ensures
