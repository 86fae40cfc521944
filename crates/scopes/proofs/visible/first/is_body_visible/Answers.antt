use Rattle.std.proofs.Common.{refl, arith}
use Rattle.scopes.specs.Visible.{NodeIsVisible}
use Rattle.scopes.proofs.Each.{next, every}
use Rattle.scopes.proofs.visible.first.is_body_visible.Goals as goal

pub loop-index-preserved : goal.loop-index-preserved
loop-index-preserved c =
    next (NodeIsVisible c.args.program.now c.args.own.now c.args.types.now) c.args.body.now.nodes c.loop-index.index c.node.result.now c.node.ensures.node
    c.loop-index.invariant (c.in_ok-is_node_visible.ensures.0 c.if-not-branch.false)

pub returns : goal.returns
returns c =
    let all = every (NodeIsVisible c.args.program.now c.args.own.now c.args.types.now) c.args.body.now.nodes c.loop-index.index (omega arith) c.loop-index.invariant in
    (λ t. all, λ a. refl)
