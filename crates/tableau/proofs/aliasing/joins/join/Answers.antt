use Rattle.std.proofs.Common.{◌≡◌}
use Rattle.tableau.proofs.GraphLemmas.{with_edge, joined_by, ok_then}
use Rattle.tableau.proofs.aliasing.joins.join.Goals as goal

pub returns : goal.returns
returns c =
    ok_then c.add_edge-2.result (λ (e : c.add_edge-2.new.self ≡ with_edge c.add_edge.new.self c.args.right c.args.left). joined_by c.args.graph.now c.add_edge.new.self c.add_edge-2.new.self c.args.left c.args.right c.requires.left c.requires.right c.in_ok-add_edge.ensures.ok e) c.add_edge-2.ensures.ok
