use Rattle.std.specs.Cmp.{both_ways}
use Rattle.term_pool.specs.NodeCodes.{same_node, same_node_decides}
use Rattle.term_pool.proofs.node.NodePartialEq.eq.Goals as goal

pub returns : goal.returns
returns c =
    let decides = same_node_decides c.args.self.now c.args.other.now in
    both_ways c.are_one.result (same_node c.args.self.now c.args.other.now) (λ e. decides.1 (c.are_one.ensures.0 e)) (λ e. c.are_one.ensures.1 (decides.0 e))
