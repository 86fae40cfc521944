use Rattle.declaration_cycles.specs.Naming.{homes_in_spec_node}
use Rattle.declaration_cycles.proofs.Naming.{pushed}
use Rattle.declaration_cycles.proofs.specifications.push_spec.Goals as goal

pub loop-place-preserved : goal.loop-place-preserved
loop-place-preserved c =
    pushed homes_in_spec_node c.args.body.now.nodes c.loop-place.place c.node.result.now _ c.loop-place.into.items _ c.node.ensures.node c.loop-place.invariant c.in_ok-push_node.ensures
