use Rattle.std.proofs.Common.{◌≡◌, take, length}
use Rattle.base.specs.Graphs.{HasEdgesOf}
use Rattle.base.proofs.marked_cycles.edge.graph_of.Given as goal

abbrev pub invariant-loop-edge : goal.invariant-loop-edge
invariant-loop-edge l =
    record { edges : HasEdgesOf l.graph (take l.edge-index l.edges); count : length l.graph ≡ l.count }
