use Rattle.std.proofs.Common.{◌∙◌}
use Rattle.term_pool.proofs.SearchLemmas.{grown, positions}
use Rattle.term_pool.proofs.pool.Pool.add.Goals as goal

pub invariant_of-self-2 : goal.invariant_of-self-2
invariant_of-self-2 c =
    (grown _ _ c.args.self.now c.args.node c.node_depth-depth.result c.self.invariant c.self.view_is c.requires.parts c.requires.nowhere c.node_depth-depth.ensures c.in_ok-insert.ensures.entries).kept

pub returns-clause-extends : goal.returns-clause-extends
returns-clause-extends c =
    (grown _ _ c.args.self.now c.args.node c.node_depth-depth.result c.self.invariant c.self.view_is c.requires.parts c.requires.nowhere c.node_depth-depth.ensures c.in_ok-insert.ensures.entries).extends

pub returns-clause-is : goal.returns-clause-is
returns-clause-is c =
    (grown _ _ c.args.self.now c.args.node c.node_depth-depth.result c.self.invariant c.self.view_is c.requires.parts c.requires.nowhere c.node_depth-depth.ensures c.in_ok-insert.ensures.entries).made
    c.len-number.result (c.len-number.ensures.len ∙ positions _ c.args.self.now c.self.view_is)
