use Rattle.std.proofs.Common.{◌+◌, ℕ, List, get_or, subst, ◌∙◌, take_all}
use Rattle.typing_rules.specs.Pieces.{piece_at}
use Rattle.definite_assignment.specs.Views.{is_in}
use Rattle.definite_assignment.specs.Entries.{in_order}
use Rattle.definite_assignment.specs.Tables.{Gains}
use Rattle.definite_assignment.proofs.Tabled.{ordered_more}
use Rattle.definite_assignment.proofs.points.entering.enter_in_order.Goals as goal

pub loop-part-preserved : goal.loop-part-preserved
loop-part-preserved c =
    let parts = c.args.parts.now in
    let k = c.loop-part.part-index in
    let part = get_or parts k 0 in
    record {
      same = (c.enter.ensures 0).same_length ∙ c.loop-part.invariant.same;
      ordered = λ i base pieces h all.
          let shows = (all.each part c.summary_at.result.now c.summary_at.ensures).flow in
          ordered_more i (base + i) pieces parts k (λ s. is_in c.args.states s i) c.loop-part.now c.behind-now.result c.args.table.now c.loop-part.table c.enter.new.table c.loop-part-test.true
          (c.loop-part.invariant.ordered i base pieces h all) (c.enter.ensures i) (λ state. c.behind-now.ensures i base (piece_at pieces part).flow state h shows);
    }

pub returns : goal.returns
returns c = λ i base pieces h all.
    subst (λ (xs : List ℕ). Gains i (in_order (base + i) pieces xs (λ s. is_in c.args.states s i)) c.args.table.now c.loop-part.table)
    (take_all c.loop-part.part-index c.args.parts.now c.loop-part-test.false) (c.loop-part.invariant.ordered i base pieces h all).gains
