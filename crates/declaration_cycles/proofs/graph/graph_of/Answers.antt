use Rattle.std.proofs.Common.{List, ℕ, length, ◌∙◌, ap}
use Rattle.std.proofs.lemmas.List.{length-set}
use Rattle.declaration_cycles.proofs.MadeGraphs.{next_edge}
use Rattle.declaration_cycles.proofs.graph.graph_of.Goals as goal

pub loop-edge-preserved : goal.loop-edge-preserved
loop-edge-preserved c = record {
  edges = next_edge c.loop-edge.graph c.add_edge.new.self c.args.edges.now c.loop-edge.edge-index c.args.count _ c.loop-edge-test.true c.loop-edge.invariant.count c.requires c.in_ok-add_edge.ensures.ok c.loop-edge.invariant.edges;
  count = ap (λ (g : List (List ℕ)). length g) c.in_ok-add_edge.ensures.ok ∙ length-set c.loop-edge.graph _ _ ∙ c.loop-edge.invariant.count;
}
