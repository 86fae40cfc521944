use Rattle.std.proofs.Common.{◌∙◌, sym}
use Rattle.tableau.specs.Graphs.{IsJoined, OneChange}
use Rattle.tableau.proofs.GraphLemmas.{ok_then}
use Rattle.tableau.proofs.aliasing.joins.join_changed.Goals as goal

pub returns-in-Some-changed : goal.returns-in-Some-changed
returns-in-Some-changed c =
    ok_then c.join.result (λ (j : IsJoined c.args.graph.now c.join.new.graph c.args.number c.in-Some-changed.part). OneChange c.in-Some-changed.part (record { node = c.in-Some.node; made = c.in-Some.ensures; is = sym c.changed.ensures ∙ c.in-Some-changed.is }) j) c.join.ensures
