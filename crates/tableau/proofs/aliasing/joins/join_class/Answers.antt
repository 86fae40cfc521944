use Rattle.std.proofs.Common.{◌∙◌, refl, sym}
use Rattle.tableau.specs.Graphs.{IsJoined, ToFirst}
use Rattle.tableau.proofs.GraphLemmas.{ok_then}
use Rattle.tableau.proofs.aliasing.joins.join_class.Goals as goal

pub returns-in-Some : goal.returns-in-Some
returns-in-Some c =
    ok_then c.join.result (λ (j : IsJoined c.args.graph.now c.join.new.graph c.args.number c.in-Some.first). ToFirst c.in-Some.first (sym c.look_up.ensures ∙ c.in-Some.is) refl j) c.join.ensures
