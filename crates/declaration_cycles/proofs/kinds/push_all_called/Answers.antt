use Rattle.program.specs.Same.{same_function}
use Rattle.declaration_cycles.specs.Naming.{called_in_node}
use Rattle.declaration_cycles.specs.Edges.{edge, number}
use Rattle.declaration_cycles.proofs.Naming.{pushed_within}
use Rattle.declaration_cycles.proofs.kinds.push_all_called.Goals as goal

pub loop-index-preserved : goal.loop-index-preserved
loop-index-preserved c =
    pushed_within (λ id. edge c.args.from (number same_function c.args.program.now.spec_functions id)) called_in_node c.args.body.now.nodes c.loop-index.index c.node.result.now
    c.args.into.now.items c.loop-index.into.items c.push_called.new.into.items c.node.ensures.node c.loop-index.invariant c.in_ok-push_called.ensures
